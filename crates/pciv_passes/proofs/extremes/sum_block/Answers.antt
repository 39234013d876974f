use Rattle.std.proofs.Common.{arith, ◌-◌}
use Rattle.pciv_passes.specs.declared.counts.Term.TheVariants.{Byte}
use Rattle.pciv_passes.proofs.ExtremesLaws.{extremes-none, extremes-next, sums-le}
use Rattle.pciv_passes.proofs.extremes.sum_block.Goals as goal

pub loop-i-init : goal.loop-i-init
loop-i-init c = extremes-none Byte c.args.a.now c.args.b.now

pub loop-i-preserved : goal.loop-i-preserved
loop-i-preserved c =
    extremes-next Byte c.args.a.now c.args.b.now c.loop-i.i _ _ _ _ c.loop-i.invariant
    (cc) (cc)

-- no byte is above 255
pub overflow_add-least : goal.overflow_add-least
overflow_add-least c =
    let most = sums-le Byte c.args.a.now c.args.b.now (λ j. (c.type_inv.a j).fits) (λ j. (c.type_inv.b j).fits) 0 (c.loop-i.i - 0) in
    omega (arith, most.0, c.loop-i.invariant.least, c.from-least.ensures)

pub overflow_add-most : goal.overflow_add-most
overflow_add-most c =
    let most = sums-le Byte c.args.a.now c.args.b.now (λ j. (c.type_inv.a j).fits) (λ j. (c.type_inv.b j).fits) 0 (c.loop-i.i - 0) in
    omega (arith, most.1, c.loop-i.invariant.most, c.from-most.ensures)
