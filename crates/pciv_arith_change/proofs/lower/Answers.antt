-- Proves pciv_arith_change::lower.
use Rattle.std.proofs.Common.{sym, ◌∙◌}
use mir.Syntax.{w64}
use mir.Facts.{to_z-of_z}
use Rattle.pciv_bytes.proofs.WriteLaws.{sets-table-more, sets-table-end}
use Rattle.pciv_arith_change.specs.Differences.{lowered_at}
use Rattle.pciv_arith_change.proofs.lower.Goals as goal

pub loop-i-preserved : goal.loop-i-preserved
loop-i-preserved c =
    let a = c.args in
    let l = c.loop-i in
    let stored = to_z-of_z {w = w64} {z = c.lowered.result} (record { sfits = c.lowered.type_inv }) in
    l.invariant
    ∙ rw (stored, c.lowered.ensures) (sets-table-more (lowered_at a.raised.now) a.at a.count l.i l.out c.loop-i-test.true)

pub returns : goal.returns
returns c =
    let a = c.args in
    let l = c.loop-i in
    sym (l.invariant ∙ sets-table-end (lowered_at a.raised.now) a.at a.count l.i l.out c.loop-i-test.false)
