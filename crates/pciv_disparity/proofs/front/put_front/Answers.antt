-- Proves pciv_disparity::front::put_front: the buffer holds any file of so many slots; it may not.
use Rattle.std.proofs.Common.{arith}
use Rattle.pciv_disparity.proofs.front.put_front.Goals as goal

pub put_unrefused-requires-clause-frame_in_bounds : goal.put_unrefused-requires-clause-frame_in_bounds
put_unrefused-requires-clause-frame_in_bounds c = omega (arith, c.if-frame-out.true)
