-- Proves pciv_bundle::nearest: one law for each answer.
use Rattle.std.proofs.Common.{length, sym, ◌∙◌}
use Rattle.pciv_format.proofs.RefusalsLaws.{passed_on}
use Rattle.pciv_bundle.specs.Bundle.{nearest_buffer}
use Rattle.pciv_bundle.proofs.BundleCaseLaws.{accepted-frames, bundle-checked, nearest-refused, nearest-short}
use Rattle.pciv_bundle.proofs.BundleCaseLaws.{nearest-done, nearest-buffer}
use Rattle.pciv_bundle.proofs.nearest.Goals as goal

pub returns-in_err-split : goal.returns-in_err-split
unfolding nearest_buffer
returns-in_err-split c =
    let a = c.args in
    let no = nearest-refused a.bundle.now _ c.in_err-split.ensures (length a.out.now) in
    record { answer = passed_on _ _ c.from_residual.ensures.1 ∙ sym no; buffer = rw no }

pub returns-then-out-n : goal.returns-then-out-n
unfolding nearest_buffer
returns-then-out-n c =
    let a = c.args in
    let short = nearest-short a.bundle.now _ c.in_ok-split.ensures.0 (length a.out.now) c.if-out-n.true in
    record { answer = c.refuse.ensures ∙ sym short; buffer = rw short }

pub nearest_into-requires-clause-count_bound : goal.nearest_into-requires-clause-count_bound
nearest_into-requires-clause-count_bound c =
    let all = accepted-frames c.args.bundle.now _ c.in_ok-split.ensures.0 in
    (all.0, all.1, c.if-out-n.false)

pub nearest_into-requires-clause-placed_frames : goal.nearest_into-requires-clause-placed_frames
nearest_into-requires-clause-placed_frames c =
    let split = c.in_ok-split.ensures in
    (split.1, bundle-checked c.args.bundle.now _ split.0)

pub returns : goal.returns
returns c =
    let a = c.args in
    let e = c.in_ok-split.ensures.0 in
    let fits = c.if-out-n.false in
    record {
      answer = sym (nearest-done a.bundle.now _ e (length a.out.now) fits);
      buffer = c.nearest_into.ensures ∙ nearest-buffer a.bundle.now _ e a.out.now fits;
    }
