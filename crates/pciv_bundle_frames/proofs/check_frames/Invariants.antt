-- The loop of check_frames: the frames below f are sound, and `other` is the least of them with another number of slots,
-- if there is one (`Passed`, FramesLaws.antt).
use Rattle.pciv_bundle_records.specs.Records.{frames}
use Rattle.pciv_bundle_frames.proofs.FramesLaws.{Passed}
use Rattle.pciv_bundle_frames.proofs.check_frames.Given as goal

abbrev pub invariant-loop-f : goal.invariant-loop-f
invariant-loop-f l = Passed l.n (frames l.bundle) l.f l.other
