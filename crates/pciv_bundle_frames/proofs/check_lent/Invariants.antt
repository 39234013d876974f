-- The loop of check_lent: that of check_frames, over the first `count` of the lent frames.
use Rattle.pciv_bundle_frames.proofs.LentLaws.{used}
use Rattle.pciv_bundle_frames.proofs.FramesLaws.{Passed}
use Rattle.pciv_bundle_frames.proofs.check_lent.Given as goal

abbrev pub invariant-loop-f : goal.invariant-loop-f
invariant-loop-f l = Passed l.n (used l.frames l.count) l.f l.other
