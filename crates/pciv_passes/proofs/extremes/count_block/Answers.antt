use Rattle.std.proofs.Common.{arith, ◌-◌}
use Rattle.pciv_passes.specs.Counts.{passes}
use Rattle.pciv_passes.specs.declared.counts.Term.TheVariants.{Passing}
use Rattle.pciv_passes.proofs.ExtremesLaws.{extremes-none, extremes-next, counts-le}
use Rattle.pciv_bytes.proofs.RangesLaws.{flag-le}
use Rattle.pciv_passes.proofs.extremes.count_block.Goals as goal

pub loop-i-init : goal.loop-i-init
loop-i-init c = extremes-none (Passing c.args.test) c.args.a.now c.args.b.now

pub loop-i-preserved : goal.loop-i-preserved
loop-i-preserved c =
    extremes-next (Passing c.args.test) c.args.a.now c.args.b.now c.loop-i.i _ _ _ _ c.loop-i.invariant
    (cc) (cc)

-- no more are counted than there are
pub overflow_add-least : goal.overflow_add-least
overflow_add-least c =
    let most = counts-le c.args.test c.args.a.now c.args.b.now 0 (c.loop-i.i - 0) in
    omega (arith, most.0, c.loop-i.invariant.least, c.passing-least.ensures, flag-le (passes c.args.test c.min.result))

pub overflow_add-most : goal.overflow_add-most
overflow_add-most c =
    let most = counts-le c.args.test c.args.a.now c.args.b.now 0 (c.loop-i.i - 0) in
    omega (arith, most.1, c.loop-i.invariant.most, c.passing-most.ensures, flag-le (passes c.args.test c.max.result))
