-- Proves pciv_arith_change::raised_differences.
use Rattle.std.proofs.Common.{◌+◌, refl, sym, ap, ◌∙◌}
use Rattle.std.proofs.lemmas.List.Edits.{sets}
use Rattle.pciv_bytes.specs.ByteAt.{byte_at}
use Rattle.pciv_bytes.proofs.RangesLaws.{table-rest, table_done}
use Rattle.pciv_bytes.proofs.WriteLaws.{sets-cons}
use Rattle.pciv_arith_change.specs.Differences.{raised_at}
use Rattle.pciv_arith_change.proofs.raised_differences.Goals as goal

pub loop-i-preserved : goal.loop-i-preserved
loop-i-preserved c =
    let a = c.args in
    let l = c.loop-i in
    let f = raised_at (byte_at a.a.now) (byte_at a.b.now) a.from in
    l.invariant
    ∙ rw c.raised_difference.ensures
    (sets-cons l.out _ (f l.i) _ l.i (l.i + 1) (table-rest f a.count l.i c.loop-i-test.true) refl)

pub returns : goal.returns
returns c =
    let a = c.args in
    let l = c.loop-i in
    let f = raised_at (byte_at a.a.now) (byte_at a.b.now) a.from in
    sym (l.invariant ∙ ap (sets l.out l.i) (table_done f a.count l.i c.loop-i-test.false))
