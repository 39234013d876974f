-- Proves pciv_mask_threshold::select: the check, the space, then the mask.
use Rattle.std.proofs.Common.{sym, ◌∙◌, arith}
use Rattle.pciv_format.proofs.ReadCaseLaws.{checked}
use Rattle.pciv_mask_threshold.specs.Select.{asked_of}
use Rattle.pciv_mask_threshold.proofs.SelectLaws.{words-done}
use Rattle.pciv_mask_threshold.proofs.select.Goals as goal

pub mask_len-count-requires : goal.mask_len-count-requires
mask_len-count-requires c = (checked _ _ (sym c.in_ok-counts.ensures.answer)).header.small

pub asked_into-requires-clause-checked_map : goal.asked_into-requires-clause-checked_map
asked_into-requires-clause-checked_map c = checked _ _ (sym c.in_ok-counts.ensures.answer)

pub returns-clause-words : goal.returns-clause-words
returns-clause-words c =
    let a = c.args in
    c.asked_into.ensures
    ∙ words-done a.file.now _ (sym c.in_ok-counts.ensures.answer) (asked_of a.asked) a.out.now (omega arith)
