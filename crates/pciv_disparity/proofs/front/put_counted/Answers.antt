-- Proves pciv_disparity::front::put_counted: the file does not fit; header and primary array, one after the other.
use Rattle.std.proofs.Common.{◌≡◌, ℕ, List, length, sym, ap, ◌∙◌, arith}
use Rattle.std.proofs.lemmas.List.Edits.{sets}
use Rattle.std.proofs.Math.Seq.{length-sets}
use Rattle.pciv_format.specs.Layout.{primary, overflow_count, header}
use Rattle.pciv_format.proofs.RefusalsLaws.{passed_on}
use Rattle.pciv_build.specs.Build.{begin_outcome, begin_buffer}
use Rattle.pciv_build.proofs.BuildLaws.{begun}
use Rattle.pciv_build.proofs.ChainLaws.{begin-few}
use Rattle.pciv_disparity.specs.Disparity.{frame_distance}
use Rattle.pciv_disparity.proofs.FrameLaws.{begun-refused, begun-done}
use Rattle.pciv_disparity.proofs.front.put_counted.Goals as goal
use Rattle.pciv_disparity.proofs.front.put_counted.Goals.{After-begin}

-- how many slots are in overflow
abbrev count : After-begin → ℕ
count c = overflow_count (length c.args.frame.now) (frame_distance c.args.bytes.now c.args.frame.now)

-- what `begin` has answered and left
answered : (c : After-begin)
    → c.begin.result ≡ begin_outcome (length c.args.frame.now) (count c) (length c.args.out.now)
answered c =
    c.begin.ensures.answer
    ∙ ap (λ (k : ℕ). begin_outcome (length c.args.frame.now) k (length c.args.out.now)) c.count_full.ensures

left : (c : After-begin) → c.begin.new.out ≡ begin_buffer (length c.args.frame.now) (count c) c.args.out.now
left c =
    c.begin.ensures.buffer ∙ ap (λ (k : ℕ). begin_buffer (length c.args.frame.now) k c.args.out.now) c.count_full.ensures

pub begin-requires : goal.begin-requires
begin-requires c = begin-few _ _ _ c.requires.frame_len_bound c.count_full.ensures

pub returns-in_err-counts : goal.returns-in_err-counts
returns-in_err-counts c =
    let b = (goal.at.returns-in_err-counts c).After-begin in
    let a = c.args in
    record {
      answer = passed_on _ _ c.from_residual.ensures.1 ∙ sym c.in_err-counts.was ∙ answered b;
      buffer = left b
          ∙ sym (begun-refused (length a.frame.now) _ (frame_distance a.bytes.now a.frame.now) a.out.now _
          (sym (answered b) ∙ c.in_err-counts.was));
    }

pub put_primary-requires-clause-frame_in_bounds : goal.put_primary-requires-clause-frame_in_bounds
put_primary-requires-clause-frame_in_bounds c =
    let b = (goal.at.put_primary-requires-clause-frame_in_bounds c).After-begin in
    let a = c.args in
    let fits = begun (length a.frame.now) _ a.out.now _ (sym (answered b) ∙ c.in_ok-counts.was) in
    omega (arith, fits.entries, ap length (left b ∙ fits.buffer) ∙ length-sets a.out.now 0 (header (length a.frame.now) (count b)))

pub returns : goal.returns
returns c =
    let b = (goal.at.returns c).After-begin in
    let a = c.args in
    record {
      answer = sym c.in_ok-counts.was ∙ answered b;
      buffer = c.put_primary.ensures
          ∙ ap (λ (l : List ℕ). sets l 40 (primary (length a.frame.now) (frame_distance a.bytes.now a.frame.now))) (left b)
          ∙ sym (begun-done (length a.frame.now) _ (frame_distance a.bytes.now a.frame.now) a.out.now _
          (sym (answered b) ∙ c.in_ok-counts.was));
    }
