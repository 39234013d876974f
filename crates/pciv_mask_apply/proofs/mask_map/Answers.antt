-- Proves pciv_mask_apply::mask_map.
use Rattle.std.proofs.Common.{◌≡◌, false, sym, ◌∙◌}
use borrow.Author.Tests.{not-true}
use Rattle.pciv_format.specs.Mask.{bad_mask}
use Rattle.pciv_format.proofs.CheckLaws.{done-counts}
use Rattle.pciv_format.proofs.MaskLaws.{bad_mask-good}
use Rattle.pciv_mask_primary.specs.Masked.{masked_of}
use Rattle.pciv_mask_apply.proofs.MaskedLaws.{masked-written}
use Rattle.pciv_mask_apply.proofs.mask_map.Goals as goal
use Rattle.pciv_mask_apply.proofs.mask_map.Goals.{Else-not-is_mask}

-- what the test of the mask says
good : (c : Else-not-is_mask) → bad_mask c.in_ok-counts.counts.n c.args.words.now ≡ false
good c = not-true _ (sym c.is_mask.ensures ∙ c.if-not-is_mask.false)

pub masked_into-requires-clause-checked_map : goal.masked_into-requires-clause-checked_map
masked_into-requires-clause-checked_map c = (done-counts 1 _ _ (sym c.in_ok-counts.ensures.answer)).0

pub masked_into-requires-clause-mask : goal.masked_into-requires-clause-mask
masked_into-requires-clause-mask c = bad_mask-good _ _ (good (goal.at.masked_into-requires-clause-mask c).Else-not-is_mask)

pub returns : goal.returns
returns c =
    let a = c.args in
    let r = masked-written (masked_of a.op) a.file.now a.words.now _ (sym c.in_ok-counts.ensures.answer)
    (good (goal.at.returns c).Else-not-is_mask) a.out.now _ _ c.masked_into.ensures.answer c.masked_into.ensures.buffer in
    record { answer = r.0; buffer = r.1 }
