use Rattle.std.proofs.Common.{arith, ◌+◌, sym}
use Rattle.pciv_bytes.specs.ByteAt.{byte_at}
use Rattle.pciv_bytes.proofs.SumLaws.{sum_from-none, sum_from-next, sum_from-byte_at-le}
use Rattle.pciv_passes.proofs.counts.sum_block.Goals as goal

pub loop-x-init : goal.loop-x-init
loop-x-init c = sym (sum_from-none (byte_at c.args.block.now) 0 0 (omega arith))

pub loop-x-preserved : goal.loop-x-preserved
loop-x-preserved c =
    rw (c.loop-x.invariant, c.from-sum.ensures) (sym (sum_from-next (byte_at c.args.block.now) c.loop-x.x-index))

-- no byte is above 255
pub overflow_add-sum : goal.overflow_add-sum
overflow_add-sum c =
    let most = sum_from-byte_at-le c.args.block.now (λ j. (c.type_inv.block j).fits) 0 (c.loop-x.x-index + 1) in
    omega (arith, loop-x-preserved c, most)
