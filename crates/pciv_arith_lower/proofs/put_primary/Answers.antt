-- Proves pciv_arith_lower::put_primary.
use Rattle.std.proofs.Common.{ℕ, ◌≡◌, ◌<◌, ap, ◌∙◌, arith}
use Rattle.std.proofs.lemmas.List.Edits.{sets}
use native.Mathlib.Nat.{add-sub_cancel_left}
use Rattle.pciv_format.specs.Check.{file_parts}
use Rattle.pciv_format.proofs.PartsLaws.{entry-good}
use Rattle.pciv_format.proofs.MapLaws.{entry-inside, primary-inside}
use Rattle.pciv_format.proofs.PatchLaws.{patched}
use Rattle.pciv_arith_lower.proofs.LoweredLaws.{low_byte, lowered-bytes-start, lowered-bytes-more, lowered-bytes-end}
use Rattle.pciv_arith_lower.proofs.put_primary.Goals as goal
use Rattle.pciv_arith_lower.proofs.put_primary.Goals.{After-entry_slot-slot}

pub slice_bounds-map_into-end : goal.slice_bounds-map_into-end
slice_bounds-map_into-end c = primary-inside c.args.file.now c.args.n c.args.k c.requires.checked_map

pub loop-j-init : goal.loop-j-init
loop-j-init c =
    let a = c.args in
    (rw (add-sub_cancel_left 40 a.n, c.primary_byte.ensures) at c.map_into.ensures)
    ∙ ap (sets a.out.now 40)
    (lowered-bytes-start a.file.now a.n a.k a.m c.requires.checked_map (λ i. (c.type_inv.file i).fits))

pub entry_slot-slot-requires : goal.entry_slot-slot-requires
entry_slot-slot-requires c = entry-inside c.args.file.now c.args.n c.args.k c.requires.checked_map c.loop-j.j c.loop-j-test.true

pub entry_distance-requires : goal.entry_distance-requires
entry_distance-requires c = entry-inside c.args.file.now c.args.n c.args.k c.requires.checked_map c.loop-j.j c.loop-j-test.true

pub lower-requires : goal.lower-requires
lower-requires c =
    omega (
      arith,
      (entry-good (file_parts c.args.file.now c.args.n c.args.k) c.requires.checked_map.parts c.loop-j.j c.loop-j-test.true).overflows,
    )

-- the slot of entry j is one of the n
inside : (c : After-entry_slot-slot) → c.entry_slot-slot.result < c.args.n
inside c =
    let P = file_parts c.args.file.now c.args.n c.args.k in
    omega (arith, (entry-good P c.requires.checked_map.parts c.loop-j.j c.loop-j-test.true).inside)

pub overflow_add-out : goal.overflow_add-out
overflow_add-out c =
    omega (arith, inside (goal.at.overflow_add-out c).After-entry_slot-slot, c.requires.checked_map.header.small)

pub bounds-out-slot : goal.bounds-out-slot
bounds-out-slot c = omega (arith, inside (goal.at.bounds-out-slot c).After-entry_slot-slot)

pub loop-j-preserved : goal.loop-j-preserved
loop-j-preserved c =
    let a = c.args in
    rw (
      c.loop-j.invariant,
      c.entry_slot-slot.ensures,
      c.primary_byte-in-loop-j.ensures,
      c.lower.ensures,
      c.entry_distance.ensures,
    )
    (lowered-bytes-more a.file.now a.n a.k a.m c.requires.checked_map (λ i. (c.type_inv.file i).fits) c.loop-j.j a.out.now
    c.loop-j-test.true c.requires.n_in_bounds)

pub returns : goal.returns
returns c =
    let a = c.args in
    let all : c.loop-j.j ≡ a.k = omega arith in
    c.loop-j.invariant
    ∙ ap (λ (j : ℕ). sets a.out.now 40 (patched (low_byte a.m) (file_parts a.file.now a.n a.k) j)) all
    ∙ ap (sets a.out.now 40)
    (lowered-bytes-end a.file.now a.n a.k a.m c.requires.checked_map (λ i. (c.type_inv.file i).fits))
