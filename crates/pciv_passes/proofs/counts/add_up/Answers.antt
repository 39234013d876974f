use Rattle.std.proofs.Common.{arith, refl, []}
use Rattle.pciv_passes.specs.declared.counts.TheConstants.{BLOCK}
use Rattle.pciv_passes.proofs.BlocksLaws.{block_is, rest_is, left-start, left-block, left-end}
use Rattle.pciv_passes.proofs.counts.add_up.Goals as goal

pub loop-block-init : goal.loop-block-init
loop-block-init c = left-start _ _ _ _ refl

pub loop-block-preserved : goal.loop-block-preserved
loop-block-preserved c =
    let block = block_is BLOCK c.args.a.now _ c.loop-block.block-index [] c.as_chunks.ensures.front (omega arith) in
    left-block c.loop-block.invariant _ _ _ block block c.add_block-sum.ensures

-- no sum so far is above the whole, which fits
pub overflow_add-sum : goal.overflow_add-sum
overflow_add-sum c = omega (arith, (loop-block-preserved c).rest, c.requires)

pub returns : goal.returns
returns c =
    let rest = rest_is BLOCK c.args.a.now _ c.loop-block.block-index c.as_chunks.ensures.back (omega arith) in
    left-end c.loop-block.invariant _ _ _ rest rest c.add_block.ensures

pub overflow_add-result : goal.overflow_add-result
overflow_add-result c = omega (arith, returns c, c.requires)
