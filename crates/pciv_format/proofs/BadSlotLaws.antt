-- The slots with byte 255 and no entry, and a walk over the slots with the next overflow entry at hand, where
-- every entry is right.
--   bad_slot-inline, -none, -entry    a slot that needs no entry, that no entry has, that entry j has
--   Walk P i j     at slot i, entry j is the next one: the entries before j have slots below i, the others not
--   walk_start, -take, -skip    before slot 0, and one slot on: past its entry, or without one
--   bad_slot-next   a slot with byte 255, where the next entry is another slot's
-- Axioms: none.
use mathlib.Core.Path.{◌≡◌, sym, ap, ◌∙◌}
use Prim.Native.Nat.{ℕ, ◌+◌, ◌≤◌, ◌<◌}
use native.Mathlib.Nat.{le_refl}
use native.Mathlib.Omega.{arith}
use native.Mathlib.Decide.{dec_le}
use mathlib.Core.Bool.{Bool, true, false}
use lib.Dec.{eqb}
use borrow.Author.Tests.{le-leb, lt-leb, eq-eqb, ne_eqb}
use Rattle.pciv_bytes.specs.Ranges.{first_below}
use Rattle.pciv_bytes.proofs.RangesLaws.{first_below-none, first_below-lt}
use Rattle.pciv_format.specs.Parts.{Parts, entry_of, bad_slot, EntriesRight}
use Rattle.pciv_format.proofs.PartsLaws.{and-false, entry_at, entries-rise}

pub record Walk (P : Parts) (i j : ℕ) : Type 0 where
  pub below : (t : ℕ) → t < j → P.slot t < i
  pub above : (t : ℕ) → j ≤ t → t < P.k → i ≤ P.slot t

pub walk_start : (P : Parts) → Walk P 0 0
walk_start P = record { below = λ t h. absurd (omega arith); above = λ t h₁ h₂. omega arith }

-- a slot whose byte is not 255 needs no entry
pub bad_slot-inline : (P : Parts) (i : ℕ) → (P.byte i ≡ 255 → ⊥) → bad_slot P i ≡ false
unfolding bad_slot
bad_slot-inline P i inline = rw (ne_eqb (P.byte i) 255 inline)

-- a slot that no entry has
pub bad_slot-none : (P : Parts) (i : ℕ) → P.byte i ≡ 255 → ((t : ℕ) → t < P.k → P.slot t ≡ i → ⊥) → bad_slot P i ≡ true
unfolding bad_slot entry_of
bad_slot-none P i full none =
    let p : ℕ → Bool = λ t. eqb (P.slot t) i in
    let e : first_below p P.k ≡ P.k = first_below-none p P.k (λ t h. ne_eqb (P.slot t) i (none t h)) in
    rw (e, le-leb P.k P.k (le_refl P.k), full)

-- a slot that entry j has
pub bad_slot-entry : (P : Parts) (i j : ℕ) → j < P.k → P.slot j ≡ i → bad_slot P i ≡ false
unfolding bad_slot entry_of
bad_slot-entry P i j h e =
    let p : ℕ → Bool = λ t. eqb (P.slot t) i in
    let has = first_below-lt p P.k j h (eq-eqb (P.slot j) i e) in
    rw (lt-leb P.k (first_below p P.k) has) (and-false (eqb (P.byte i) 255))

module _ (P : Parts) (right : EntriesRight P) where
  -- slot i has entry j
  pub walk-take : (i j : ℕ) → Walk P i j → j < P.k → P.slot j ≡ i → Walk P (i + 1) (j + 1)
  walk-take i j w h e =
      record {
        below = λ t ht.
            elim (dec_le j t) [
              | yes d ↦ (let q : t ≡ j = omega arith in omega (arith, ap P.slot q))
              | no d ↦ omega (arith, w.below t (omega arith))
            ];
        above = λ t h₁ h₂. omega (arith, entries-rise P right j t (omega arith) h₂);
      }

  -- slot i is stored inline
  pub walk-skip : (i j : ℕ) → Walk P i j → (P.byte i ≡ 255 → ⊥) → Walk P (i + 1) j
  walk-skip i j w inline =
      record {
        below = λ t ht. omega (arith, w.below t ht);
        above = λ t h₁ h₂.
            elim (dec_le (P.slot t) i) [
              | yes d ↦ (let q : P.slot t ≡ i = omega (arith, w.above t h₁ h₂) in
                  absurd (inline (ap P.byte (sym q) ∙ (entry_at P right t h₂).marked)))
              | no d ↦ omega arith
            ];
      }

  -- slot i has byte 255, and the next entry is not its own
  pub bad_slot-next : (i j : ℕ) → Walk P i j → (j < P.k → P.slot j ≡ i → ⊥) → P.byte i ≡ 255 → bad_slot P i ≡ true
  bad_slot-next i j w other full = bad_slot-none P i full none
    where
      none : (t : ℕ) → t < P.k → P.slot t ≡ i → ⊥
      none t h q =
          elim (dec_le j t) [
            | yes d ↦
                elim (dec_le t j) [
                  | yes d' ↦ (let z : t ≡ j = omega arith in other (omega arith) (ap P.slot (sym z) ∙ q))
                  | no d' ↦ omega (arith, entries-rise P right j t (omega arith) h, w.above j (le_refl j) (omega arith))
                ]
            | no d ↦ omega (arith, w.below t (omega arith))
          ]
