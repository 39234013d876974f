-- Between two edits the buffer holds a checked map of n slots, `held` has its entries and its sum, and all edits from the
-- start do what the rest does from here.
use Rattle.std.proofs.Common.{◌*◌}
use Rattle.pciv_format.specs.Edit.{answer_len, edits_of}
use Rattle.pciv_slot.specs.Change.{SummedMap}
use Rattle.pciv_edit.proofs.EditListLaws.{Left, edits_from}
use Rattle.pciv_edit.proofs.run.edit_all.Given as goal

abbrev pub invariant-loop-i : goal.invariant-loop-i
invariant-loop-i l = record {
  map : SummedMap l.buffer l.n l.held.k l.held.sum;
  rest : Left l.initial.buffer l.initial.answers (edits_of l.slots l.distances) l.buffer l.answers (answer_len * l.i)
      (edits_from l.slots l.distances l.i);
}
