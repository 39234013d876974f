-- Proves pciv_edit::run::edit_all.
use Rattle.std.proofs.Common.{◌+◌, arith}
use Rattle.pciv_edit.proofs.EditListLaws.{left-start, left-more, left_end, edit_at, edits_from, edits-more, edits-end}
use Rattle.pciv_edit.proofs.run.edit_all.Goals as goal

pub loop-i-init : goal.loop-i-init
loop-i-init c =
    let a = c.args in
    record { map = c.requires.summed_map; rest = left-start a.slots.now a.distances.now a.buffer.now a.answers.now }

pub loop-i-preserved : goal.loop-i-preserved
loop-i-preserved c =
    let a = c.args in
    let l = c.loop-i in
    record {
      map = c.edit_next-held.ensures.map;
      rest =
          left-more _ _ _ _ _ _ _ (edit_at a.slots.now a.distances.now l.i) (edits_from a.slots.now a.distances.now (l.i + 1))
          (edits-more _ _ l.i (omega arith)) l.invariant.rest _ _ c.edit_next-held.ensures.buffer
          c.edit_next-held.ensures.answers _ (omega arith);
    }

pub returns : goal.returns
returns c =
    let a = c.args in
    let l = c.loop-i in
    let r = left_end _ _ _ _ _ _ _ (edits-end a.slots.now a.distances.now l.i (omega arith)) l.invariant.rest in
    record { buffer = r.0; answers = r.1 }
