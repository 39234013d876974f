-- Proves pciv_bundle_nearest::entries::lower_entries: one entry after another, each at its slot.
use Rattle.std.proofs.Common.{◌+◌, ◌<◌, length, arith}
use Rattle.pciv_format.specs.Check.{file_parts}
use Rattle.pciv_format.proofs.PartsLaws.{entry-good}
use Rattle.pciv_format.proofs.MapLaws.{entry-inside}
use Rattle.pciv_bundle_nearest.proofs.LoweredLaws.{lowered-entry, lowered-entries}
use Rattle.pciv_bundle_nearest.proofs.entries.lower_entries.Goals as goal
use Rattle.pciv_bundle_nearest.proofs.entries.lower_entries.Goals.{After-entry_slot-slot}

-- the slot of entry j
slot-inside : (c : After-entry_slot-slot) → c.entry_slot-slot.result < length c.loop-j.out
slot-inside c =
    let a = c.args in
    omega (
      arith,
      c.entry_slot-slot.ensures,
      (entry-good (file_parts a.file.now a.n a.k) c.requires.checked_map.parts c.loop-j.j (omega arith)).inside,
    )

pub entry_slot-slot-requires : goal.entry_slot-slot-requires
entry_slot-slot-requires c =
    entry-inside c.args.file.now c.args.n c.args.k c.requires.checked_map c.loop-j.j (omega arith)

pub offset_bounds-out-slot : goal.offset_bounds-out-slot
offset_bounds-out-slot c = omega (arith, slot-inside c)

pub bounds-out-slot : goal.bounds-out-slot
bounds-out-slot c = slot-inside (goal.at.bounds-out-slot c).After-entry_slot-slot

pub entry_distance-requires : goal.entry_distance-requires
entry_distance-requires c =
    entry-inside c.args.file.now c.args.n c.args.k c.requires.checked_map c.loop-j.j (omega arith)

pub offset_bounds-out-slot-in-loop-j : goal.offset_bounds-out-slot-in-loop-j
offset_bounds-out-slot-in-loop-j c =
    omega (arith, slot-inside (goal.at.offset_bounds-out-slot-in-loop-j c).After-entry_slot-slot)

pub bounds-out-slot-in-loop-j : goal.bounds-out-slot-in-loop-j
bounds-out-slot-in-loop-j c = slot-inside (goal.at.bounds-out-slot-in-loop-j c).After-entry_slot-slot

pub loop-j-preserved : goal.loop-j-preserved
loop-j-preserved c =
    let a = c.args in
    rw c.entry_slot-slot.ensures
    (lowered-entry (file_parts a.file.now a.n a.k) c.requires.checked_map.parts (λ i. (c.type_inv.file (40 + i)).fits) c.loop-j.j _
    c.loop-j.invariant (omega arith) (omega arith)
    (rw (c.entry_slot-slot.ensures, c.entry_distance.ensures) at c.min.ensures))

pub returns : goal.returns
returns c =
    let a = c.args in
    lowered-entries (file_parts a.file.now a.n a.k) c.requires.checked_map.parts (λ i. (c.type_inv.file (40 + i)).fits) c.loop-j.j
    c.loop-j.invariant (omega arith)
