-- Proves pciv_read::lookup.
use Rattle.std.proofs.Common.{Ok, sym, ap, ◌∙◌}
use Rattle.pciv_format.proofs.RefusalsLaws.{passed_on}
use Rattle.pciv_format.proofs.ReadCaseLaws.{checked, lookup-refused, lookup-outside, lookup-inside}
use Rattle.pciv_read.proofs.lookup.Goals as goal

pub returns-in_err-n : goal.returns-in_err-n
returns-in_err-n c =
    let a = c.args in
    record {
      answer = passed_on _ _ c.from_residual.ensures.1
          ∙ sym (lookup-refused a.file.now _ (sym c.in_err-n.ensures.answer) a.slot);
    }

pub returns-then-n-slot : goal.returns-then-n-slot
returns-then-n-slot c =
    let a = c.args in
    record {
      answer = c.refuse.ensures ∙ sym (lookup-outside a.file.now _ (sym c.in_ok-n.ensures.answer) a.slot c.if-n-slot.true);
    }

pub locate-requires-clause-checked_map : goal.locate-requires-clause-checked_map
locate-requires-clause-checked_map c = checked _ _ (sym c.in_ok-n.ensures.answer)

pub returns : goal.returns
returns c =
    let a = c.args in
    record {
      answer = ap Ok c.locate.ensures
          ∙ sym (lookup-inside a.file.now _ (sym c.in_ok-n.ensures.answer) a.slot c.if-n-slot.false);
    }
