-- The loop of put_bundle: the frames so far are written, up to `at`.
use Rattle.pciv_bundle_frames.proofs.LentLaws.{lent}
use Rattle.pciv_bundle.proofs.BundleBytesLaws.{Putting}
use Rattle.pciv_bundle.proofs.write.put_bundle.Given as goal

abbrev pub invariant-loop-frame : goal.invariant-loop-frame
invariant-loop-frame l = Putting (lent l.frames) l.initial.out l.out l.at l.frame-index
