-- Proves pciv_repair::repair: the refusals 3, 4 and 5 in turn, then the file and the list.
use Rattle.std.proofs.Common.{arith}
use Rattle.pciv_repair.proofs.OutcomeLaws.{ends-many, ends-counts, ends-short}
use Rattle.pciv_repair.proofs.repair.Goals as goal

pub returns-then-n-gt-MAX_SLOTS : goal.returns-then-n-gt-MAX_SLOTS
returns-then-n-gt-MAX_SLOTS c =
    let a = c.args in
    let e = ends-many a.file.now a.n a.k a.out.now a.list.now _ c.refuse.ensures c.if-n-gt-MAX_SLOTS.true in
    record { answer = e.0; buffer = e.1.0; list = e.1.1 }

pub returns-then-n-k : goal.returns-then-n-k
returns-then-n-k c =
    let a = c.args in
    let e = ends-counts a.file.now a.n a.k a.out.now a.list.now (omega arith) _ c.refuse-then-n-k.ensures c.if-n-k.true in
    record { answer = e.0; buffer = e.1.0; list = e.1.1 }

pub returns-then-file-n : goal.returns-then-file-n
returns-then-file-n c =
    let a = c.args in
    let e =
    ends-short a.file.now a.n a.k a.out.now a.list.now (omega arith) _ c.refuse-then-file-n.ensures (omega arith)
    c.if-file-n.true in
    record { answer = e.0; buffer = e.1.0; list = e.1.1 }

pub rebuild-requires : goal.rebuild-requires
rebuild-requires c = record { small = omega arith; few = omega arith; inside = omega arith }
