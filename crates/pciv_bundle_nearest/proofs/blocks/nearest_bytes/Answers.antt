-- Proves pciv_bundle_nearest::blocks::nearest_bytes.
use Rattle.pciv_bytes.proofs.WriteLaws.{left_end}
use Rattle.pciv_bundle_nearest.proofs.BlockLaws.{left_block}
use Rattle.pciv_bundle_nearest.proofs.blocks.nearest_bytes.Goals as goal

pub loop-start-preserved : goal.loop-start-preserved
loop-start-preserved c = left_block c.loop-start.invariant c.loop-start-test.true _ c.min-len.ensures _ c.nearest_block.ensures

pub returns : goal.returns
returns c = left_end c.loop-start.invariant c.loop-start-test.false
