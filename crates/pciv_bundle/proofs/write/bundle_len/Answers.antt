-- Proves pciv_bundle::write::bundle_len: the bytes of one frame after another.
use Rattle.std.proofs.Common.{arith}
use Rattle.pciv_bundle_frames.proofs.LentLaws.{lent, length-lent, lent-at}
use Rattle.pciv_bundle.proofs.BundleBytesLaws.{counted-more, counted-end}
use Rattle.pciv_bundle.proofs.write.bundle_len.Goals as goal

pub loop-frame-preserved : goal.loop-frame-preserved
loop-frame-preserved c =
    let frames = c.args.frames.now in
    counted-more (lent frames) _ _ c.loop-frame.invariant c.requires.1 (omega (arith, length-lent frames)) _
    (lent-at frames c.loop-frame.frame-index)

pub returns : goal.returns
returns c =
    let frames = c.args.frames.now in
    counted-end (lent frames) _ _ c.loop-frame.invariant (omega (arith, length-lent frames))
