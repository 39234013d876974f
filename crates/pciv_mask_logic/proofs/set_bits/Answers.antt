-- Proves pciv_mask_logic::set_bits: too many slots, no mask of n slots, or all bits counted.
use Rattle.std.proofs.Common.{rules, sym, ap, ◌∙◌, Ok, arith}
use borrow.Author.Tests.{not-true}
use Rattle.pciv_format.specs.Mask.{set_bits_outcome}
use Rattle.pciv_format.specs.Words.{IsMask}
use Rattle.pciv_format.proofs.MaskLaws.{bad_mask-good}
use Rattle.pciv_mask_logic.proofs.LogicOutcomeLaws.{set_bits-done}
use Rattle.pciv_mask_logic.proofs.set_bits.Goals as goal
use Rattle.pciv_mask_logic.proofs.set_bits.Goals.{Else-not-is_mask}

-- what the check of the mask has shown
is-good : (c : Else-not-is_mask) → IsMask c.args.n c.args.words.now
is-good c = bad_mask-good _ _ (not-true _ (sym c.is_mask.ensures ∙ c.if-not-is_mask.false))

pub returns-then-n-gt-MAX_SLOTS : goal.returns-then-n-gt-MAX_SLOTS
unfolding set_bits_outcome
returns-then-n-gt-MAX_SLOTS c = search rules

pub returns-then-not-is_mask : goal.returns-then-not-is_mask
unfolding set_bits_outcome
returns-then-not-is_mask c = search rules

pub count_bits-requires : goal.count_bits-requires
count_bits-requires c = omega (arith, (is-good (goal.at.count_bits-requires c).Else-not-is_mask).count)

pub returns : goal.returns
returns c =
    record {
      answer = ap Ok c.count_bits.ensures
          ∙ sym (set_bits-done _ _ c.if-n-gt-MAX_SLOTS.false (is-good (goal.at.returns c).Else-not-is_mask));
    }
