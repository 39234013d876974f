-- Proves pciv_arith::sum_maps: the check of both maps, then the file of the result.
use Rattle.std.proofs.Common.{sym, ◌∙◌}
use Rattle.pciv_format.specs.declared.SlotOp.TheVariants.{Sum}
use Rattle.pciv_format.proofs.RefusalsLaws.{passed_on}
use Rattle.pciv_check.proofs.PairLaws.{pair-checked}
use Rattle.pciv_arith.proofs.ArithLaws.{combined-refused, combined-written}
use Rattle.pciv_arith.proofs.sum_maps.Goals as goal

pub returns-in_err-pair : goal.returns-in_err-pair
returns-in_err-pair c =
    let a = c.args in
    let r = combined-refused Sum a.a.now a.b.now a.out.now _ (sym c.in_err-pair.ensures.answer) in
    record { answer = passed_on _ _ c.from_residual.ensures.1 ∙ r.0; buffer = r.1 }

pub added_into-requires : goal.added_into-requires
added_into-requires c = record { checked_pair = pair-checked _ _ _ (sym c.in_ok-pair.ensures.answer); small = tt }

pub returns : goal.returns
returns c =
    let a = c.args in
    let r = combined-written Sum a.a.now a.b.now a.out.now _ (sym c.in_ok-pair.ensures.answer) _ _
    c.added_into.ensures.answer c.added_into.ensures.buffer in
    record { answer = r.0; buffer = r.1 }
