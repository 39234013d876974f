-- Proves pciv_edit::run::edit_list: a run that is made.
use Rattle.std.proofs.Common.{sym, arith, rules}
use Rattle.pciv_format.proofs.SummaryLaws.{buffer_held}
use Rattle.pciv_edit.proofs.EditListLaws.{is_map, made-run}
use Rattle.pciv_edit.proofs.run.edit_list.Goals as goal

pub edit_all-requires-clause-summed_map : goal.edit_all-requires-clause-summed_map
edit_all-requires-clause-summed_map c =
    let held = buffer_held 1 c.args.buffer.now _ (λ i. search rules) (sym c.in_ok-summary.ensures.answer) in
    record { checked = held.0; sum_is = held.1 }

pub returns : goal.returns
returns c =
    let a = c.args in
    let r = made-run a.buffer.now a.slots.now a.distances.now (λ i. search rules) (λ i. grind arith) _
    (is_map a.buffer.now _ c.in_ok-summary.ensures.answer) (omega arith) a.answers.now (omega arith) _ _ c.edit_all.ensures.buffer
    c.edit_all.ensures.answers in
    record { answer = r.0; buffer = r.1.0; answers = r.1.1 }
