-- Proves pciv_bundle::check_bundle: the records, then the frames.
use Rattle.std.proofs.Common.{sym}
use Rattle.pciv_format.proofs.RefusalsLaws.{passed_on}
use Rattle.pciv_bundle.proofs.BundleCaseLaws.{bundle-records, bundle-frames, bundle-done, counted-frames}
use Rattle.pciv_bundle.proofs.check_bundle.Goals as goal

pub returns-in_err-split : goal.returns-in_err-split
returns-in_err-split c =
    rw (passed_on _ _ c.from_residual.ensures.1) (bundle-records c.args.bundle.now _ c.in_err-split.ensures)

pub check_frames-requires-clause-count_bound : goal.check_frames-requires-clause-count_bound
check_frames-requires-clause-count_bound c = counted-frames c.args.bundle.now _ c.in_ok-split.ensures.0

pub returns-in_err-check_frames : goal.returns-in_err-check_frames
returns-in_err-check_frames c =
    rw (passed_on _ _ c.from_residual-in_err-check_frames.ensures.1)
    (bundle-frames c.args.bundle.now _ c.in_ok-split.ensures.0 _ (sym c.in_err-check_frames.ensures))

pub returns : goal.returns
returns c =
    let b = c.args.bundle.now in
    (bundle-done b _ c.in_ok-split.ensures.0 _ (sym c.in_ok-check_frames.ensures), c.in_ok-split.ensures.1)
