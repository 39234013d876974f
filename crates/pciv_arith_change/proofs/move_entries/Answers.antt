-- Proves pciv_arith_change::move_entries.
use Rattle.std.proofs.Common.{◌≡◌, ◌^◌, ◌<◌, length, get_or, sym, ◌∙◌, arith}
use Rattle.std.specs.Prelude.{pos}
use Rattle.std.specs.Int.Signed.{mag}
use mir.Syntax.{w64}
use mir.Val.{to_z, of_z}
use mir.Facts.{to_z-of_z}
use Rattle.pciv_format.specs.Check.{file_parts}
use Rattle.pciv_format.proofs.PartsLaws.{GoodEntry, entry-good}
use Rattle.pciv_format.proofs.MapLaws.{entry-inside}
use Rattle.pciv_arith_change.proofs.DifferencesLaws.{moved_more, moved-done, small-more}
use Rattle.pciv_arith_change.proofs.move_entries.Goals as goal
use Rattle.pciv_arith_change.proofs.move_entries.Goals.{After-entry_slot-slot}

pub entry_slot-slot-requires : goal.entry_slot-slot-requires
entry_slot-slot-requires c =
    entry-inside c.args.file.now c.args.n c.args.k c.requires.checked_map c.loop-j.j c.loop-j-test.true

pub entry_distance-requires : goal.entry_distance-requires
entry_distance-requires c =
    entry-inside c.args.file.now c.args.n c.args.k c.requires.checked_map c.loop-j.j c.loop-j-test.true

good : (c : After-entry_slot-slot) → GoodEntry (file_parts c.args.file.now c.args.n c.args.k) c.loop-j.j
good c = entry-good (file_parts c.args.file.now c.args.n c.args.k) c.requires.checked_map.parts c.loop-j.j c.loop-j-test.true

pub overflow_sub-excess : goal.overflow_sub-excess
overflow_sub-excess c = omega (arith, (good (goal.at.overflow_sub-excess c).After-entry_slot-slot).overflows)

inside : (c : After-entry_slot-slot) → c.entry_slot-slot.result < length c.loop-j.out
inside c = omega (arith, (good c).inside, c.requires.n_in_bounds.0)

pub offset_bounds-out-slot : goal.offset_bounds-out-slot
offset_bounds-out-slot c = omega (arith, inside (goal.at.offset_bounds-out-slot c).After-entry_slot-slot, c.well_formed)

pub slice_copy_out-moved : goal.slice_copy_out-moved
slice_copy_out-moved c = inside (goal.at.slice_copy_out-moved c).After-entry_slot-slot

-- what stands at the entry's slot is small, and read as it is
small : (c : After-entry_slot-slot) → mag (get_or c.loop-j.out c.entry_slot-slot.result (pos 0)) < 2 ^ 40
small c =
    let g = good c in
    rw c.entry_slot-slot.ensures (c.loop-j.invariant.small _ g.above g.inside)

read : (c : After-entry_slot-slot)
    → (let z = get_or c.loop-j.out c.entry_slot-slot.result (pos 0) in to_z w64 (of_z w64 z) ≡ z)
read c =
    to_z-of_z {w = w64} {z = get_or c.loop-j.out c.entry_slot-slot.result (pos 0)}
    (record { sfits = omega (arith, small c) })

pub moved-requires : goal.moved-requires
moved-requires c =
    let z = (goal.at.moved-requires c).After-entry_slot-slot in
    rw (read z) (small z)

pub offset_bounds-out-slot-in-loop-j : goal.offset_bounds-out-slot-in-loop-j
offset_bounds-out-slot-in-loop-j c =
    omega (arith, inside (goal.at.offset_bounds-out-slot-in-loop-j c).After-entry_slot-slot, c.well_formed)

pub bounds-out-slot : goal.bounds-out-slot
bounds-out-slot c = inside (goal.at.bounds-out-slot c).After-entry_slot-slot

pub loop-j-preserved : goal.loop-j-preserved
loop-j-preserved c =
    let l = c.loop-j in
    let a = c.args in
    let P = file_parts a.file.now a.n a.k in
    let z = (goal.at.loop-j-preserved c).After-entry_slot-slot in
    let stored = to_z-of_z {w = w64} {z = c.moved.result} (record { sfits = c.moved.type_inv }) in
    record {
      small = rw c.entry_slot-slot.ensures (small-more P l.j l.out _ (good z).above l.invariant.small);
      left = l.invariant.left
          ∙ moved_more a.side P a.k l.j l.out c.loop-j-test.true
          ∙ rw (stored, c.moved.ensures, read z, c.entry_slot-slot.ensures, c.entry_distance.ensures);
    }

pub returns : goal.returns
returns c =
    let a = c.args in
    sym (c.loop-j.invariant.left ∙ moved-done a.side (file_parts a.file.now a.n a.k) a.k c.loop-j.j c.loop-j.out c.loop-j-test.false)
