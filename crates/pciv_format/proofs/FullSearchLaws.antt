-- The search between the overflow entries for a byte 255 without one, where every entry is right.
--   first_full P from to    the least slot from `from` up to `to` with byte 255, or `to`
--   Searched P from        no slot below `from` lacks its entry
--   lowest-le              the least slot that an entry may have is n at the most
--   searched-more, -found  past entry j, or at the least slot that lacks its entry before it
--   searched-end           after the last entry
-- Axioms: none.
use mathlib.Core.Path.{◌≡◌, sym, ap, ◌∙◌}
use Prim.Native.Nat.{ℕ, zero, suc, ◌+◌, ◌-◌, ◌≤◌, ◌<◌}
use native.Mathlib.Nat.{le_refl}
use native.Mathlib.Omega.{arith}
use native.Mathlib.Decide.{dec_le}
use mathlib.Core.Bool.{Bool, true, false}
use lib.Dec.{eqb}
use borrow.Author.Tests.{eq-eqb, eqb-true}
use Rattle.pciv_bytes.specs.Ranges.{first_from, first_below}
use Rattle.pciv_bytes.proofs.RangesLaws.{true-false, first_below-none, first_below-at, first_from-low}
use Rattle.pciv_bytes.proofs.RangesLaws.{first_from-le, first_from-clear, first_from-has}
use Rattle.pciv_format.specs.Parts.{Parts, lowest_slot, bad_slot, EntriesRight}
use Rattle.pciv_format.proofs.PartsLaws.{entry_at, entries-rise}
use Rattle.pciv_format.proofs.BadSlotLaws.{bad_slot-inline, bad_slot-entry, bad_slot-next}

abbrev full_at : Parts → ℕ → Bool
full_at P i = eqb (P.byte i) 255

abbrev pub first_full : Parts → ℕ → ℕ → ℕ
first_full P from to = first_from (full_at P) from (to - from)

abbrev pub Searched : Parts → ℕ → Type 0
Searched P from = (t : ℕ) → t < from → bad_slot P t ≡ false

-- a byte 255 from `from` up to `to` has no entry
abbrev Gap : Parts → ℕ → ℕ → Type 0
Gap P from to = (t : ℕ) → from ≤ t → t < to → P.byte t ≡ 255 → bad_slot P t ≡ true

module _ (P : Parts) (from to : ℕ) (searched : Searched P from) where
  searched-up : (r : ℕ) → r ≤ first_full P from to → Searched P r
  searched-up r le t h =
      elim (dec_le from t) [
        | yes d ↦ (let clear = first_from-clear (full_at P) (to - from) from t d (omega arith) in
            bad_slot-inline P t (λ full. true-false (sym (eq-eqb (P.byte t) 255 full) ∙ clear)))
        | no d ↦ searched t (omega arith)
      ]

  found : to ≤ P.n → Gap P from to → first_full P from to < to → first_below (bad_slot P) P.n ≡ first_full P from to
  found inside gap h =
      let r : ℕ = first_full P from to in
      let full : P.byte r ≡ 255 = eqb-true (P.byte r) 255 (first_from-has (full_at P) (to - from) from (omega arith)) in
      first_below-at (bad_slot P) P.n r (omega arith) (searched-up r (le_refl r))
      (gap r (first_from-low (full_at P) (to - from) from) h full)

module _ (P : Parts) (right : EntriesRight P) where
  pub lowest-le : (j : ℕ) → j ≤ P.k → lowest_slot P j ≤ P.n
  lowest-le zero h = omega arith
  lowest-le (suc j) h = omega (arith, (entry_at P right j (omega arith)).inside)

  -- between the entry before j and entry j there is none
  below-lowest : (j t : ℕ) → j ≤ P.k → lowest_slot P j ≤ t → (u : ℕ) → u < j → P.slot u < t
  below-lowest zero t inside low u h = absurd (omega arith)
  below-lowest (suc j) t inside low u h =
      elim (dec_le j u) [
        | yes d ↦ (let q : u ≡ j = omega arith in omega (arith, ap P.slot q))
        | no d ↦ omega (arith, entries-rise P right u j (omega arith) (omega arith))
      ]

  from-slot : (j u : ℕ) → j ≤ u → u < P.k → P.slot j ≤ P.slot u
  from-slot j u h₁ h₂ =
      elim (dec_le u j) [
        | yes d ↦ (let q : j ≡ u = omega arith in omega (arith, ap P.slot q))
        | no d ↦ omega (arith, entries-rise P right j u (omega arith) h₂)
      ]

  gap-before : (j : ℕ) → j < P.k → Gap P (lowest_slot P j) (P.slot j)
  gap-before j h t low high =
      bad_slot-next P right t j
      (record {
        below = below-lowest j t (omega arith) low;
        above = λ u h₁ h₂. omega (arith, from-slot j u h₁ h₂);
      })
      (λ _ e. omega arith)

  gap-after : Gap P (lowest_slot P P.k) P.n
  gap-after t low high =
      bad_slot-next P right t P.k
      (record { below = below-lowest P.k t (le_refl _) low; above = λ u h₁ h₂. absurd (omega arith) })
      (λ h e. omega arith)

  module _ (from : ℕ) (searched : Searched P from) where
    pub searched-found : (j r : ℕ) → j < P.k → from ≡ lowest_slot P j → r ≡ first_full P from (P.slot j)
        → r < P.slot j → first_below (bad_slot P) P.n ≡ r
    searched-found j r inside low is h =
        let below : P.slot j ≤ P.n = omega (arith, (entry_at P right j inside).inside) in
        found P from (P.slot j) searched below (rw low (gap-before j inside)) (omega arith) ∙ sym is

    pub searched-more : (j r : ℕ) → j < P.k → r ≡ first_full P from (P.slot j) → P.slot j ≤ r
        → Searched P (P.slot j + 1)
    searched-more j r inside is h t ht =
        elim (dec_le (P.slot j) t) [
          | yes d ↦ bad_slot-entry P t j inside (omega arith)
          | no d ↦ searched-up P from (P.slot j) searched r (omega arith) t (omega arith)
        ]

    pub searched-end : (r : ℕ) → from ≡ lowest_slot P P.k → r ≡ first_full P from P.n
        → first_below (bad_slot P) P.n ≡ r
    searched-end r low is =
        elim (dec_le P.n (first_full P from P.n)) [
          | yes d ↦ first_below-none (bad_slot P) P.n (searched-up P from P.n searched P.n d)
              ∙ omega (arith, first_from-le (full_at P) (P.n - from) from, lowest-le P.k (le_refl _))
          | no d ↦ found P from P.n searched (le_refl _) (rw low gap-after) (omega arith) ∙ sym is
        ]
