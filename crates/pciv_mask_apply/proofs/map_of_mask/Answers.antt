-- Proves pciv_mask_apply::map_of_mask.
use Rattle.std.proofs.Common.{rules, ◌≡◌, false, sym, ◌∙◌, length}
use borrow.Author.Tests.{not-true}
use Rattle.pciv_format.specs.Mask.{bad_mask, map_of_mask_outcome, map_of_mask_buffer}
use Rattle.pciv_format.proofs.MaskLaws.{bad_mask-good}
use Rattle.pciv_mask_apply.proofs.MaskedLaws.{map-good, map-buffer}
use Rattle.pciv_mask_apply.proofs.map_of_mask.Goals as goal
use Rattle.pciv_mask_apply.proofs.map_of_mask.Goals.{Else-not-is_mask}

-- what the test of the mask says
good : (c : Else-not-is_mask) → bad_mask c.args.n c.args.words.now ≡ false
good c = not-true _ (sym c.is_mask.ensures ∙ c.if-not-is_mask.false)

pub returns-then-n-gt-MAX_SLOTS : goal.returns-then-n-gt-MAX_SLOTS
unfolding map_of_mask_outcome map_of_mask_buffer
returns-then-n-gt-MAX_SLOTS c = search rules

pub returns-then-not-is_mask : goal.returns-then-not-is_mask
unfolding map_of_mask_outcome map_of_mask_buffer
returns-then-not-is_mask c = search rules

pub bits_into-requires-clause-mask : goal.bits_into-requires-clause-mask
bits_into-requires-clause-mask c = bad_mask-good _ _ (good (goal.at.bits_into-requires-clause-mask c).Else-not-is_mask)

pub returns : goal.returns
returns c =
    let a = c.args in
    let o = map-good a.n a.words.now (length a.out.now) c.if-n-gt-MAX_SLOTS.false (good (goal.at.returns c).Else-not-is_mask) in
    record {
      answer = c.bits_into.ensures.answer ∙ sym o;
      buffer = c.bits_into.ensures.buffer ∙ map-buffer a.n a.words.now a.out.now _ o;
    }
