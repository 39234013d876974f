-- Proves pciv_bundle_nearest::blocks::raise_block.
use Rattle.std.proofs.Common.{ℕ, List, sym, ◌∙◌, arith}
use Rattle.pciv_bytes.proofs.WriteLaws.{sets-table-more, sets-table-end}
use Rattle.pciv_format.specs.Layout.{at}
use Rattle.pciv_bundle_nearest.specs.Passes.{raised_byte}
use Rattle.pciv_bundle_nearest.proofs.blocks.raise_block.Goals as goal

abbrev raised_at : List ℕ → ℕ → ℕ
raised_at least i = raised_byte (at least i)

pub loop-i-preserved : goal.loop-i-preserved
loop-i-preserved c =
    let a = c.args in
    let l = c.loop-i in
    rw c.raised.ensures (l.invariant ∙ sets-table-more (raised_at a.least.now) a.start a.len l.i l.out (omega arith))

pub returns : goal.returns
returns c =
    let a = c.args in
    let l = c.loop-i in
    sym (l.invariant ∙ sets-table-end (raised_at a.least.now) a.start a.len l.i l.out (omega arith))
