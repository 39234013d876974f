-- Proves pciv_arith::signed_difference: the check of both maps, then the space, then the differences.
use Rattle.std.proofs.Common.{sym, ◌∙◌, length}
use Rattle.pciv_format.proofs.RefusalsLaws.{passed_on}
use Rattle.pciv_check.proofs.PairLaws.{pair-checked}
use Rattle.pciv_arith.proofs.SignedDifferenceLaws.{difference-refused, difference-short}
use Rattle.pciv_arith.proofs.SignedDifferenceLaws.{difference-kept, difference-written}
use Rattle.pciv_arith.proofs.signed_difference.Goals as goal

pub returns-in_err-pair : goal.returns-in_err-pair
returns-in_err-pair c =
    let a = c.args in
    let e = difference-refused a.a.now a.b.now _ (sym c.in_err-pair.ensures.answer) (length a.out.now) in
    record {
      answer = passed_on _ _ c.from_residual.ensures.1 ∙ sym e;
      list = difference-kept a.a.now a.b.now _ a.out.now e;
    }

pub returns-then-out-n : goal.returns-then-out-n
returns-then-out-n c =
    let a = c.args in
    let e = difference-short a.a.now a.b.now _ (sym c.in_ok-pair.ensures.answer) (length a.out.now) c.if-out-n.true in
    record { answer = c.refuse.ensures ∙ sym e; list = difference-kept a.a.now a.b.now _ a.out.now e }

pub differences_into-requires : goal.differences_into-requires
differences_into-requires c =
    record {
      checked_pair = pair-checked _ _ _ (sym c.in_ok-pair.ensures.answer);
      n_in_bounds = c.if-out-n.false;
    }

pub returns : goal.returns
returns c =
    let a = c.args in
    let r = difference-written a.a.now a.b.now _ (sym c.in_ok-pair.ensures.answer) a.out.now _ c.if-out-n.false
    c.differences_into.ensures in
    record { answer = r.0; list = r.1 }
