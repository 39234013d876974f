-- Proves pciv_arith::combine: the check of both maps, then the file of the result.
use Rattle.std.proofs.Common.{sym, ◌∙◌}
use Rattle.pciv_format.proofs.RefusalsLaws.{passed_on}
use Rattle.pciv_check.proofs.PairLaws.{pair-checked}
use Rattle.pciv_arith_merge.specs.Merge.{slot_op_of}
use Rattle.pciv_arith.proofs.ArithLaws.{combined-refused, combined-written}
use Rattle.pciv_arith.proofs.combine.Goals as goal

pub returns-in_err-pair : goal.returns-in_err-pair
returns-in_err-pair c =
    let a = c.args in
    let r = combined-refused (slot_op_of a.op) a.a.now a.b.now a.out.now _ (sym c.in_err-pair.ensures.answer) in
    record { answer = passed_on _ _ c.from_residual.ensures.1 ∙ r.0; buffer = r.1 }

pub combine_into-requires : goal.combine_into-requires
combine_into-requires c = pair-checked _ _ _ (sym c.in_ok-pair.ensures.answer)

pub returns : goal.returns
returns c =
    let a = c.args in
    let r = combined-written (slot_op_of a.op) a.a.now a.b.now a.out.now _ (sym c.in_ok-pair.ensures.answer) _ _
    c.combine_into.ensures.answer c.combine_into.ensures.buffer in
    record { answer = r.0; buffer = r.1 }
