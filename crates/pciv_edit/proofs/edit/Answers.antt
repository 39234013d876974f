-- Proves pciv_edit::edit: the check, then the edit.
use Rattle.std.proofs.Common.{sym, rules}
use Rattle.pciv_format.proofs.SummaryLaws.{buffer_held}
use Rattle.pciv_edit.proofs.edit.Goals as goal

pub edit_checked-requires : goal.edit_checked-requires
edit_checked-requires c =
    let held = buffer_held 1 c.args.buffer.now _ (λ i. search rules) (sym c.in-Ok.ensures.answer) in
    record { checked = held.0; sum_is = held.1 }
