-- count is the set slots with byte 254 in the words before this one.
use Rattle.std.proofs.Common.{◌≡◌, ◌*◌}
use Rattle.pciv_bytes.specs.Ranges.{sum_from}
use Rattle.pciv_mask_increment.specs.Raised.{raised_at}
use Rattle.pciv_mask_increment.proofs.count_raised.Given as goal

abbrev pub invariant-loop-w : goal.invariant-loop-w
invariant-loop-w l = l.count ≡ sum_from (raised_at l.bytes l.words) 0 (64 * l.w)
