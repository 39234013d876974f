-- Proves pciv_bundle::row_at: one law for each answer.
use Rattle.std.proofs.Common.{Ok, sym, ap, ◌∙◌}
use Rattle.pciv_format.proofs.RefusalsLaws.{passed_on}
use Rattle.pciv_bundle.proofs.BundleCaseLaws.{accepted-frames, bundle-checked, row-refused, row-outside, row_inside}
use Rattle.pciv_bundle.proofs.row_at.Goals as goal

pub returns-in_err-split : goal.returns-in_err-split
returns-in_err-split c =
    let a = c.args in
    passed_on _ _ c.from_residual.ensures.1 ∙ sym (row-refused a.bundle.now _ c.in_err-split.ensures a.slot)

pub returns-then-counts-slot : goal.returns-then-counts-slot
returns-then-counts-slot c =
    let a = c.args in
    c.refuse.ensures ∙ sym (row-outside a.bundle.now _ c.in_ok-split.ensures.0 a.slot c.if-counts-slot.true)

pub row_of-requires-clause-count_bound : goal.row_of-requires-clause-count_bound
row_of-requires-clause-count_bound c =
    let all = accepted-frames c.args.bundle.now _ c.in_ok-split.ensures.0 in
    (all.0, all.1, c.if-counts-slot.false)

pub row_of-requires-clause-placed_frames : goal.row_of-requires-clause-placed_frames
row_of-requires-clause-placed_frames c =
    let split = c.in_ok-split.ensures in
    (split.1, bundle-checked c.args.bundle.now _ split.0)

pub returns : goal.returns
returns c =
    let a = c.args in
    ap Ok c.row_of.ensures ∙ sym (row_inside a.bundle.now _ c.in_ok-split.ensures.0 a.slot c.if-counts-slot.false)
