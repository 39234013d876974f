-- The loop of bundle_len: the bytes that are counted are those of record 0 and of the frames so far.
use Rattle.pciv_bundle_frames.proofs.LentLaws.{lent}
use Rattle.pciv_bundle.proofs.BundleBytesLaws.{Counted}
use Rattle.pciv_bundle.proofs.write.bundle_len.Given as goal

abbrev pub invariant-loop-frame : goal.invariant-loop-frame
invariant-loop-frame l = Counted (lent l.frames) l.frame-index l.len
