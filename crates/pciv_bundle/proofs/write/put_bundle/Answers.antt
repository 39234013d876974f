-- Proves pciv_bundle::write::put_bundle: record 0, then one frame after another.
use Rattle.std.proofs.Common.{◌+◌, ◌≤◌, ◌<◌, length, ap, ◌∙◌, arith}
use Rattle.pciv_bundle_frames.proofs.LentLaws.{lent, length-lent, lent-at}
use Rattle.pciv_bundle.proofs.BundleBytesLaws.{frames_bytes, length-bundle_of}
use Rattle.pciv_bundle.proofs.BundleBytesLaws.{putting-space, putting-more, putting-end, sets-bundle}
use Rattle.pciv_bundle.proofs.write.put_bundle.Goals as goal

pub put_header-requires : goal.put_header-requires
put_header-requires c =
    let a = c.args in
    (omega (arith, length-bundle_of a.n (lent a.frames.now)), c.requires.n_bound.0)

pub put_frame-requires : goal.put_frame-requires
put_frame-requires c =
    let a = c.args in
    let fs = lent a.frames.now in
    let f = c.loop-frame.frame-index in
    let here = lent-at a.frames.now f in
    let more : f < length fs = omega (arith, length-lent a.frames.now) in
    let fits : 12 + length (frames_bytes fs) ≤ length c.loop-frame.out = omega (arith, length-bundle_of a.n fs) in (
      putting-space fs _ _ _ _ c.loop-frame.invariant more _ here fits,
      omega (arith, c.requires.short_frames.1 f more, ap length here),
    )

pub loop-frame-preserved : goal.loop-frame-preserved
loop-frame-preserved c =
    let frames = c.args.frames.now in
    putting-more (lent frames) _ _ _ _ c.loop-frame.invariant (omega (arith, length-lent frames)) _
    (lent-at frames c.loop-frame.frame-index) c.requires.short_frames.1 _ c.put_frame.ensures

pub returns : goal.returns
returns c =
    let a = c.args in
    let fs = lent a.frames.now in
    putting-end fs _ _ _ _ c.loop-frame.invariant (omega (arith, length-lent a.frames.now))
    ∙ sets-bundle a.n fs a.out.now _ (rw length-lent c.put_header.ensures)
