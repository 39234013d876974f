-- Proves pciv_disparity::distance_of: disparity 0; every other one.
use Rattle.std.proofs.Common.{sym, arith}
use Rattle.pciv_disparity.proofs.DisparityLaws.{distance_none, distance_some}
use Rattle.pciv_disparity.proofs.distance_of.Goals as goal

pub returns-then-d-eq0 : goal.returns-then-d-eq0
returns-then-d-eq0 c = sym (distance_none c.args.constant c.args.d c.if-d-eq0.true)

pub returns : goal.returns
returns c = omega (arith, distance_some c.args.constant c.args.d (omega (arith, c.if-d-eq0.false)), c.max.ensures)
