use Rattle.std.proofs.Common.{arith, ◌+◌, sym, ap, ◌∙◌, ℕ, eqb}
use Rattle.pciv_bytes.specs.Ranges.{sum_from}
use Rattle.pciv_bytes.proofs.RangesLaws.{bool_byte-flag}
use Rattle.pciv_bytes.proofs.SumLaws.{sum_from-none, sum_from-next, sum_from-flag-le}
use Rattle.pciv_passes.specs.Pairs.{pair_at, full_at}
use Rattle.pciv_passes.proofs.pairs.count_full_block.Goals as goal

pub loop-i-init : goal.loop-i-init
loop-i-init c = sym (sum_from-none (full_at c.args.op c.args.a.now c.args.b.now) 0 0 (omega arith))

pub loop-i-preserved : goal.loop-i-preserved
loop-i-preserved c =
    rw (c.loop-i.invariant, c.from-sum.ensures, c.byte_op.ensures)
    (ap (λ (x : ℕ). sum_from (full_at c.args.op c.args.a.now c.args.b.now) 0 c.loop-i.i + x) (bool_byte-flag _)
    ∙ sym (sum_from-next (full_at c.args.op c.args.a.now c.args.b.now) c.loop-i.i))

-- there are no more results 255 than bytes
pub overflow_add-sum : goal.overflow_add-sum
overflow_add-sum c =
    let most = sum_from-flag-le (λ (i : ℕ). eqb (pair_at c.args.op c.args.a.now c.args.b.now i) 255) 0 (c.loop-i.i + 1) in
    omega (arith, loop-i-preserved c, most)
