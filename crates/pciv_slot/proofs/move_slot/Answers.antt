-- Proves pciv_slot::move_slot. The reasoning on lists is in ChangeLaws.antt.
use Rattle.std.proofs.Common.{Ok, ◌≡◌, ◌+◌, ◌-◌, ◌≤◌, ◌<◌, ℕ, length, sym, ap, ap₂, ◌∙◌, arith, rules}
use Prim.Native.Nat.{◌^◌}
use Rattle.pciv_format.specs.Layout.{file_len, counts_of, summarize}
use Rattle.pciv_format.specs.Refusals.{Outcome}
use Rattle.pciv_format.specs.Read.{total, with_sum}
use Rattle.pciv_format.specs.Edit.{Edit, edited, edit_answer}
use Rattle.pciv_format.specs.declared.Counts.{Counts}
use Rattle.pciv_format.proofs.LayoutLaws.{file_len-is}
use Rattle.pciv_build.proofs.BuildLaws.{begin-short, begin-fits}
use Rattle.pciv_format.proofs.LimitLaws.{buffer-refused}
use Rattle.pciv_format.proofs.MovedLaws.{moved-refused}
use Rattle.pciv_format.proofs.EditCaseLaws.{held}
use Rattle.pciv_slot.proofs.CaseLaws.{sum-after}
use Rattle.pciv_slot.proofs.ChangeLaws.{SlotMoves, slot-moves}
use Rattle.pciv_slot.proofs.move_slot.Goals as goal
use Rattle.pciv_slot.proofs.move_slot.Goals.{After-file_len, After-old_distance-old}

abbrev the-edit : After-file_len → Edit
the-edit c = record { slot = c.args.slot; distance = c.args.distance }

law : (c : After-file_len) → (let a = c.args in SlotMoves a.buffer.now a.n a.k (the-edit c) a.count)
law c =
    let a = c.args in
    slot-moves a.buffer.now a.n a.k (λ i. search rules) (the-edit c) c.requires.edit_at a.count c.requires.slot_value.0
    c.requires.slot_value.1

-- the new file fits
fits : (c : After-old_distance-old) → (let a = c.args in file_len a.n a.count ≤ length a.buffer.now)
fits c = omega (arith, c.file_len.ensures, c.if-buffer-file_len.false)

-- the sum, adjusted by the old distance
adjusts : (c : After-old_distance-old)
    → (let a = c.args in
    let e : Edit = record { slot = a.slot; distance = a.distance } in
    let old = c.old_distance-old.result in
    (old ≤ a.sum) × (a.sum < 2 ^ 52) × (a.sum - old + a.distance ≡ total (edited (held a.buffer.now) e)))
adjusts c =
    let a = c.args in
    sum-after a.buffer.now a.n a.k (λ i. search rules) (record { slot = a.slot; distance = a.distance }) c.requires.edit_at
    a.sum _ c.requires.sum_value c.old_distance-old.ensures

pub file_len-requires : goal.file_len-requires
file_len-requires c =
    let a = c.args in
    let h = c.requires.edit_at.checked.header in
    let moves = slot-moves a.buffer.now a.n a.k (λ i. search rules) (record { slot = a.slot; distance = a.distance })
    c.requires.edit_at a.count c.requires.slot_value.0 c.requires.slot_value.1 in
    (h.small, omega (arith, h.small, moves.few))

pub returns-then-buffer-file_len : goal.returns-then-buffer-file_len
returns-then-buffer-file_len c =
    let a = c.args in
    let b = a.buffer.now in
    let short : length b < file_len a.n a.count = omega (arith, c.file_len.ensures, c.if-buffer-file_len.true) in
    let at_start = (goal.at.returns-then-buffer-file_len c).After-file_len in
    let e = the-edit at_start in
    let is = (law at_start).answer
    ∙ ap (λ (o : Outcome Counts). with_sum o (total (edited (held b) e))) (begin-short a.n a.count b short).0 in
    record {
      answer = c.refused-told.ensures ∙ ap₂ edit_answer (sym is) (sym (moved-refused b e _ is));
      buffer = sym (buffer-refused b e _ is);
    }

pub put_header-requires : goal.put_header-requires
put_header-requires c =
    let a = c.args in
    let z = goal.at.put_header-requires c in (
      omega (arith, (law z.After-file_len).few, c.requires.edit_at.checked.header.small),
      omega (arith, fits z.After-old_distance-old, file_len-is a.n a.count),
    )

pub change_entries-requires : goal.change_entries-requires
change_entries-requires c =
    let z = goal.at.change_entries-requires c in
    rw c.put_header.auto.out
    ((law z.After-file_len).space c.entry_of-j.result c.entry_of-j.ensures (fits z.After-old_distance-old))

pub finish_change-requires-clause-n_le_max_slots : goal.finish_change-requires-clause-n_le_max_slots
finish_change-requires-clause-n_le_max_slots c =
    let z = goal.at.finish_change-requires-clause-n_le_max_slots c in
    let h = c.requires.edit_at.checked.header in
    (h.small, h.few, (law z.After-file_len).few)

pub adjusted-after-requires : goal.adjusted-after-requires
adjusted-after-requires c = let q = adjusts (goal.at.adjusted-after-requires c).After-old_distance-old in (q.0, q.1)

pub above_count-requires : goal.above_count-requires
above_count-requires c =
    let z = goal.at.above_count-requires c in
    let space = (law z.After-file_len).space c.entry_of-j.result c.entry_of-j.ensures (fits z.After-old_distance-old) in
    (λ h. omega (arith, (space.leaves h).0), λ h. omega (arith, (space.enters h).0))

pub edited-requires : goal.edited-requires
edited-requires c = (c.requires.edit_at.checked.header.small, (law (goal.at.edited-requires c).After-file_len).few)

pub returns : goal.returns
returns c =
    let a = c.args in
    let z = goal.at.returns c in
    let moves = law z.After-file_len in
    let room = fits z.After-old_distance-old in
    let sum = c.adjusted-after.ensures ∙ (adjusts z.After-old_distance-old).2 in
    let is = moves.answer
    ∙ ap (λ (o : Outcome Counts). with_sum o (total (edited (held a.buffer.now) (the-edit z.After-file_len))))
    (begin-fits a.n a.count a.buffer.now room).0 in
    record {
      answer =
          c.edited.ensures
          ∙ ap₂ edit_answer (ap (λ (x : ℕ). Ok (summarize (counts_of a.n a.count) x)) sum ∙ sym is)
          (c.above_count.ensures ∙ sym (moves.entries_moved c.entry_of-j.result c.entry_of-j.ensures room));
      buffer =
          moves.buffer c.entry_of-j.result _ _ c.entry_of-j.ensures room
          (rw c.put_header.ensures at c.change_entries.ensures) c.finish_change.ensures;
    }
