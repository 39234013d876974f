-- The loop of split_records: record `number` would start at `at`, no record before it is at fault, `found` of them are
-- frames, and each has its place. The bytes from `at` on get fewer.
use Rattle.std.proofs.Common.{length, ◌-◌}
use Rattle.pciv_bundle_records.proofs.SplitLaws.{Splitting}
use Rattle.pciv_bundle_records.proofs.split_records.Given as goal

abbrev pub invariant-loop-at : goal.invariant-loop-at
invariant-loop-at l = Splitting l.bundle l.places l.found l.number l.at

abbrev pub decreases-loop-at : goal.decreases-loop-at
decreases-loop-at l = length l.bundle - l.at
