-- Proves pciv_slot::old_distance: a byte below 255 is the distance, and else the slot's entry has it.
use Rattle.std.proofs.Common.{◌≡◌, ◌+◌, ℕ, sym, ap, ◌∙◌, arith}
use Rattle.pciv_format.specs.Check.{file_parts}
use Rattle.pciv_format.proofs.MapLaws.{primary-inside, entry-inside}
use Rattle.pciv_map_lookup.proofs.LookupLaws.{value_of-entry}
use Rattle.pciv_slot.proofs.old_distance.Goals as goal
use Rattle.pciv_slot.proofs.old_distance.Goals.{Else-byte-lt-SENTINEL}

-- the slot is in overflow
full : (c : Else-byte-lt-SENTINEL) → (let a = c.args in (file_parts a.buffer.now a.n a.k).byte a.slot ≡ 255)
full c = omega (arith, c.type_inv.buffer (40 + c.args.slot))

pub bounds-buffer-slot : goal.bounds-buffer-slot
bounds-buffer-slot c =
    let p = c.requires.edit_at in
    omega (arith, p.inside, primary-inside _ _ _ p.checked)

pub entry_distance-requires : goal.entry_distance-requires
entry_distance-requires c =
    let p = c.requires.edit_at in
    let entry = value_of-entry _ p.checked.parts c.args.slot p.inside (full c) in
    entry-inside _ _ _ p.checked _ (omega (arith, entry.0, c.requires.j_value))

pub returns : goal.returns
returns c =
    let a = c.args in
    let P = file_parts a.buffer.now a.n a.k in
    let p = c.requires.edit_at in
    c.entry_distance.ensures
    ∙ ap (λ (j : ℕ). P.distance j) c.requires.j_value
    ∙ sym (value_of-entry P p.checked.parts a.slot p.inside (full (goal.at.returns c).Else-byte-lt-SENTINEL)).1
