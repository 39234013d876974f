-- Proves pciv_disparity::front::count_at_least: above 255 there is none.
use Rattle.std.proofs.Common.{sym, arith}
use Rattle.pciv_disparity.proofs.CountLaws.{none_above}
use Rattle.pciv_disparity.proofs.front.count_at_least.Goals as goal

pub returns-then-is_past : goal.returns-then-is_past
returns-then-is_past c =
    sym (none_above c.args.frame.now (λ i. (c.type_inv.frame i).fits) c.args.d _ (omega (arith, c.if-is_past.true)))
