-- Proves pciv_map_lookup::locate: a byte below 255 is the distance, and else the slot's entry has it.
use Rattle.std.proofs.Common.{◌≡◌, ℕ, ◌+◌, sym, ap, ◌∙◌, arith}
use Rattle.pciv_format.specs.Check.{file_parts}
use Rattle.pciv_format.specs.declared.Origin.TheVariants.{Overflow}
use Rattle.pciv_format.proofs.MapLaws.{primary-inside, entry-inside}
use Rattle.pciv_map_lookup.proofs.LookupLaws.{value_of-entry, located-inline, located-entry}
use Rattle.pciv_map_lookup.proofs.locate.Goals as goal
use Rattle.pciv_map_lookup.proofs.locate.Goals.{Else-is_inline}

-- the slot is in overflow
full : (c : Else-is_inline) → (file_parts c.args.file.now c.args.n c.args.k).byte c.args.slot ≡ 255
full c = omega (arith, c.type_inv.file (40 + c.args.slot))

pub bounds-file-slot : goal.bounds-file-slot
bounds-file-slot c = omega (arith, primary-inside _ _ _ c.requires.checked_map)

pub returns-then-is_inline : goal.returns-then-is_inline
returns-then-is_inline c = sym (located-inline _ c.requires.checked_map.parts c.args.slot (omega arith))

pub entry_distance-requires : goal.entry_distance-requires
entry_distance-requires c =
    let there = full (goal.at.entry_distance-requires c).Else-is_inline in
    let entry = value_of-entry _ c.requires.checked_map.parts c.args.slot c.requires.slot_lt_n there in
    entry-inside _ _ _ c.requires.checked_map _ (omega (arith, entry.0, c.entry_of-j.ensures))

pub returns : goal.returns
returns c =
    ap (λ (x : ℕ). record { distance = x; origin = Overflow c.entry_of-j.result }) c.entry_distance.ensures
    ∙ sym (located-entry _ c.requires.checked_map.parts c.args.slot c.requires.slot_lt_n
    (full (goal.at.returns c).Else-is_inline) _ c.entry_of-j.ensures)
