use Rattle.std.proofs.Common.{arith, ◌+◌, sym, ℕ}
use Rattle.pciv_bytes.specs.ByteAt.{byte_at}
use Rattle.pciv_bytes.proofs.SumLaws.{sum_from-none, sum_from-next, sum_from-flag-le}
use Rattle.pciv_passes.specs.Counts.{passes, test_at}
use Rattle.pciv_passes.proofs.counts.count_block.Goals as goal

pub loop-x-init : goal.loop-x-init
loop-x-init c = sym (sum_from-none (test_at c.args.test c.args.block.now) 0 0 (omega arith))

pub loop-x-preserved : goal.loop-x-preserved
loop-x-preserved c =
    rw (c.loop-x.invariant, c.passing-sum.ensures) (sym (sum_from-next (test_at c.args.test c.args.block.now) c.loop-x.x-index))

-- there are no more that pass than bytes
pub overflow_add-sum : goal.overflow_add-sum
overflow_add-sum c =
    let most = sum_from-flag-le (λ (i : ℕ). passes c.args.test (byte_at c.args.block.now i)) 0 (c.loop-x.x-index + 1) in
    omega (arith, loop-x-preserved c, most)
