-- The loop of lower_all: lowering the distances by every frame from the start on equals lowering them by the frames from f on.
use Rattle.pciv_bundle_records.specs.Records.{frames}
use Rattle.pciv_bundle_nearest.specs.Passes.{entry_step}
use Rattle.pciv_bundle_nearest.proofs.ChangedLaws.{Turns}
use Rattle.pciv_bundle_nearest.proofs.entries.lower_all.Given as goal

abbrev pub invariant-loop-f : goal.invariant-loop-f
invariant-loop-f l = Turns (entry_step l.n) (frames l.bundle) l.n l.initial.out l.out l.f
