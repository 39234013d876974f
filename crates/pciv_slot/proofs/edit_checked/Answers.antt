-- Proves pciv_slot::edit_checked: which of the four cases it is.
use Rattle.std.proofs.Common.{◌+◌, ◌<◌, get_or, sym, ap₂, ◌∙◌, arith, rules}
use Rattle.pciv_format.specs.Edit.{Edit, edit_answer}
use Rattle.pciv_format.proofs.LayoutLaws.{file_len-is}
use Rattle.pciv_slot.specs.Change.{EditAt}
use Rattle.pciv_format.proofs.LimitLaws.{buffer-refused}
use Rattle.pciv_format.proofs.EditCaseLaws.{edit-outside}
use Rattle.pciv_format.proofs.MovedLaws.{moved-refused}
use Rattle.pciv_slot.proofs.CaseLaws.{entry-inside}
use Rattle.pciv_slot.proofs.edit_checked.Goals as goal

pub returns-then-n-slot : goal.returns-then-n-slot
returns-then-n-slot c =
    let a = c.args in
    let b = a.buffer.now in
    let e : Edit = record { slot = a.slot; distance = a.distance } in
    let is = edit-outside b a.n a.k (λ i. search rules) c.requires.checked e c.if-n-slot.true in
    record {
      answer = c.refused.ensures ∙ ap₂ edit_answer (sym is) (sym (moved-refused b e _ is));
      buffer = sym (buffer-refused b e _ is);
    }

pub bounds-buffer-slot : goal.bounds-buffer-slot
bounds-buffer-slot c = omega (arith, c.requires.checked.fits, file_len-is c.args.n c.args.k)

pub overflow_sub-k : goal.overflow_sub-k
overflow_sub-k c =
    let a = c.args in
    let e : Edit = record { slot = a.slot; distance = a.distance } in
    let here : EditAt a.buffer.now a.n a.k a.slot = record { checked = c.requires.checked; inside = c.if-n-slot.false } in
    let byte : get_or a.buffer.now (40 + a.slot) 0 < 256 = search rules in
    omega (arith, entry-inside a.buffer.now a.n a.k (λ i. search rules) e here (omega arith))
