-- Proves pciv_mask_apply::bits_into: the header and the primary bytes are the file, as the map has no overflow entry,
-- and the set bits are its sum.
use Rattle.std.proofs.Common.{ℕ, ◌+◌, ◌*◌, ◌<◌, refl, sym, ap, ◌∙◌, length, arith}
use Rattle.std.proofs.lemmas.List.Edits.{sets}
use Rattle.pciv_bytes.proofs.RangesLaws.{flag-le}
use Rattle.pciv_format.specs.Layout.{summarize}
use Rattle.pciv_format.specs.Write.{file_into}
use Rattle.pciv_format.specs.Mask.{mask_has, mask_value}
use Rattle.pciv_format.proofs.MaskLaws.{set_bits-sum}
use Rattle.pciv_format.proofs.RefusalsLaws.{passed_on}
use Rattle.pciv_build.proofs.ChainLaws.{Opened, opened-refused, opened-space, opened-counted}
use Rattle.pciv_mask_bytes.proofs.RowLaws.{primary-bits, count_none, part_none, index-none}
use Rattle.pciv_mask_apply.proofs.bits_into.Goals as goal
use Rattle.pciv_mask_apply.proofs.bits_into.Goals.{After-begin}

opened : (c : After-begin) → (let a = c.args in
    Opened a.n 0 (mask_value a.words.now) (file_into a.n (mask_value a.words.now) (length a.out.now)) a.out.now c.begin.result
    c.begin.new.out)
opened c =
    let a = c.args in
    let low : (i : ℕ) → mask_value a.words.now i < 255 = λ i. omega (arith, flag-le (mask_has a.words.now i)) in
    record {
      few = c.requires.n_le_max_slots;
      each = λ i h. omega (arith, low i);
      count = count_none a.n (mask_value a.words.now) low;
      into = refl;
      answer = c.begin.ensures.answer;
      buffer = c.begin.ensures.buffer;
    }

pub returns-in_err-counts : goal.returns-in_err-counts
returns-in_err-counts c =
    let r = opened-refused (opened (goal.at.returns-in_err-counts c).After-begin) _ c.in_err-counts.was in
    record { answer = passed_on _ _ c.from_residual.ensures.1 ∙ r.0; buffer = r.1 }

pub put_bits-requires : goal.put_bits-requires
put_bits-requires c = (
  omega (arith, c.requires.mask.count),
  omega (arith, opened-space (opened (goal.at.put_bits-requires c).After-begin) _ c.in_ok-counts.was),
)

-- no entry and no index is to be written
pub returns : goal.returns
returns c =
    let a = c.args in
    let d = c.put_bits.new.out in
    let low : (i : ℕ) → mask_value a.words.now i < 255 = λ i. omega (arith, flag-le (mask_has a.words.now i)) in
    let r = opened-counted (opened (goal.at.returns c).After-begin) _ c.in_ok-counts.was d
    (c.put_bits.ensures ∙ ap (sets _ 40) (primary-bits a.n a.words.now))
    d (sym (ap (sets d (40 + a.n)) (part_none a.n (mask_value a.words.now) low)))
    d (sym (ap (sets d (40 + a.n + 12 * 0)) (index-none d a.n)))
    _ (c.summarized.ensures ∙ ap (summarize _) (c.count_bits.ensures ∙ set_bits-sum a.n a.words.now c.requires.mask)) in
    record { answer = r.0; buffer = r.1 }
