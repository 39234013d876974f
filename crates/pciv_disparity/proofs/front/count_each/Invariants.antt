-- The slots of byte 255 from d-index on are left to count.
use Rattle.std.proofs.Common.{length}
use Rattle.pciv_bytes.specs.Ranges.{sum_from}
use Rattle.pciv_bytes.proofs.SumLaws.{Added}
use Rattle.pciv_disparity.proofs.CountLaws.{full_at}
use Rattle.pciv_disparity.proofs.front.count_each.Given as goal

abbrev pub invariant-loop-d : goal.invariant-loop-d
invariant-loop-d l =
    let full = full_at l.bytes l.frame in
    Added full (length l.frame) (sum_from full 0 (length l.frame)) l.d-index l.count
