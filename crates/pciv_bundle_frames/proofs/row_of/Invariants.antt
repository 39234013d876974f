-- The loop of row_of: the distances of the frames below f stand in the row.
use Rattle.std.proofs.Common.{◌≡◌, ℕ, ◌<◌, get_or}
use Rattle.pciv_bundle_records.specs.Records.{frames}
use Rattle.pciv_bundle_frames.proofs.RowLaws.{row_at}
use Rattle.pciv_bundle_frames.proofs.row_of.Given as goal

abbrev pub invariant-loop-f : goal.invariant-loop-f
invariant-loop-f l = (g : ℕ) → g < l.f → get_or l.distance-items g 0 ≡ row_at (frames l.bundle) l.slot g
