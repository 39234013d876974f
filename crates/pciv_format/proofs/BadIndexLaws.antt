-- The test of an index entry, case by case (docs/FORMAT.md, "Refusals", 8).
--   slot_field, place_field    what index entry i states
--   slot_there                the slot that it should state
--   bad_index_entry-slot, -place, -good    another slot, another place, or neither
-- Axioms: none.
use mathlib.Core.Path.{◌≡◌}
use Prim.Native.Nat.{ℕ, ◌+◌, ◌*◌}
use mathlib.Core.Bool.{true, false, not}
use mathlib.Core.List.{List}
use lib.Dec.{eqb}
use Rattle.pciv_bytes.specs.LittleEndian.{get}
use Rattle.pciv_format.specs.Layout.{index_step}
use Rattle.pciv_format.specs.Check.{bad_index_entry}
use Rattle.pciv_format.proofs.PartsLaws.{or-true, eqb-not, neb-not}

module _ (b : List ℕ) (n k i : ℕ) where
  abbrev pub slot_field : ℕ
  slot_field = get 8 b (40 + n + 12 * k + 16 * i)

  abbrev pub place_field : ℕ
  place_field = get 8 b (40 + n + 12 * k + 16 * i + 8)

  abbrev pub slot_there : ℕ
  slot_there = get 8 b (40 + n + 12 * (i * index_step k))

  pub bad_index_entry-slot : (slot_field ≡ slot_there → ⊥) → bad_index_entry b n k i ≡ true
  unfolding bad_index_entry
  bad_index_entry-slot e = rw (neb-not slot_field slot_there e)

  pub bad_index_entry-place : (place_field ≡ i * index_step k → ⊥) → bad_index_entry b n k i ≡ true
  unfolding bad_index_entry
  bad_index_entry-place e = rw (neb-not place_field (i * index_step k) e) (or-true (not (eqb slot_field slot_there)))

  pub bad_index_entry-good : slot_field ≡ slot_there → place_field ≡ i * index_step k → bad_index_entry b n k i ≡ false
  unfolding bad_index_entry
  bad_index_entry-good e₁ e₂ = rw (eqb-not slot_field slot_there e₁, eqb-not place_field (i * index_step k) e₂)
