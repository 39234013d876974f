-- The bytes of the slots from i on are left to write. Falls: n - i.
use Rattle.std.proofs.Common.{◌-◌, length}
use Rattle.pciv_format.proofs.PrimaryLaws.{PrimaryLeft}
use Rattle.pciv_disparity.specs.Disparity.{frame_distance}
use Rattle.pciv_disparity.proofs.front.put_primary.Given as goal

abbrev pub invariant-loop-i : goal.invariant-loop-i
invariant-loop-i l = PrimaryLeft (length l.frame) (frame_distance l.bytes l.frame) l.initial.out l.i l.out

abbrev pub decreases-loop-i : goal.decreases-loop-i
decreases-loop-i l = length l.frame - l.i
