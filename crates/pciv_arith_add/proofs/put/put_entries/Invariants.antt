use Rattle.std.proofs.Common.{◌+◌, ◌*◌}
use Rattle.pciv_format.specs.Check.{file_parts}
use Rattle.pciv_arith_add.proofs.PutLaws.{Putting}
use Rattle.pciv_arith_add.proofs.put.put_entries.Given as goal

abbrev pub invariant-loop-e : goal.invariant-loop-e
invariant-loop-e l =
    Putting l.of (file_parts l.a l.n l.ka) (file_parts l.b l.n l.kb) l.initial.out l.out (40 + l.n + 12 * l.e) l.j l.t
