-- The slots in overflow in both of two maps A and B, and those in either.
--   shared-more            those of the minimum, counted along the entries of A by the bytes of B: one entry on
--   extremes-count         minimum and maximum have as many together as the two maps
-- Axioms: none.
use mathlib.Core.Path.{◌≡◌, refl, sym, ap, ap₂, ◌∙◌}
use Prim.Native.Nat.{ℕ, ◌+◌, ◌<◌, min, max}
use native.Mathlib.Nat.{add-zero}
use native.Mathlib.Omega.{arith}
use native.Mathlib.Decide.{dec_le}
use lib.Dec.{eqb}
use borrow.Author.Tests.{eq-eqb, ne_eqb}
use Rattle.pciv_bytes.specs.Ranges.{flag}
use Rattle.pciv_bytes.proofs.SumLaws.{sum_from-plus}
use Rattle.pciv_format.specs.Layout.{in_overflow, overflow_count}
use Rattle.pciv_format.specs.Parts.{Parts, lowest_slot, value_of}
use Rattle.pciv_format.specs.declared.SlotOp.TheVariants.{Minimum, Maximum}
use Rattle.pciv_format.proofs.PartsLaws.{entry-good, value_of-slot, slot_cases, overflow_count-is}
use Rattle.pciv_check.proofs.SoundPairLaws.{SoundPair}
use Rattle.pciv_build.proofs.EntriesLaws.{Counted, overflow_count-sum}
use Rattle.pciv_build.proofs.AlongLaws.{counted-entry, counted-pass}
use Rattle.pciv_arith_merge.specs.Merge.{combined_of}
use Rattle.pciv_arith_merge.proofs.CombineLaws.{shrinks-minimum}
use Rattle.pciv_arith_merge.proofs.LedLaws.{combined-along}

-- 1 for a distance in overflow
abbrev overflows : ℕ → ℕ
overflows x = flag (in_overflow x)

-- the smaller and the larger of two distances are the two
overflow-both : (x y : ℕ) → overflows (min x y) + overflows (max x y) ≡ overflows x + overflows y
overflow-both x y =
    elim (dec_le x y) [
      | yes d ↦ (let e : min x y ≡ x = omega arith in let g : max x y ≡ y = omega arith in rw (e, g))
      | no d ↦ (let e : min x y ≡ y = omega arith in let g : max x y ≡ x = omega arith in rw (e, g) (omega arith))
    ]

module _ {A B : Parts} (p : SoundPair A B) where
  pub shared-more : (j : ℕ) → j < A.k → {c : ℕ} → Counted A.n (combined_of Minimum A B) (lowest_slot A j) c
      → Counted A.n (combined_of Minimum A B) (lowest_slot A (j + 1)) (c + flag (eqb (B.byte (A.slot j)) 255))
  shared-more j here {c} e =
      let v : ℕ → ℕ = combined_of Minimum A B in
      let along = combined-along Minimum shrinks-minimum A B p.first p.bytes-first in
      let good = entry-good A p.first j here in
      let first = value_of-slot A p.first j here in
      slot_cases B p.second p.bytes-second (A.slot j) (omega (arith, good.inside, p.sizes))
      (λ small is. rw (ne_eqb (B.byte (A.slot j)) 255 (λ q. omega arith), add-zero c)
      (counted-pass along j here e (omega arith)))
      (λ t ht at full is distant. rw (eq-eqb (B.byte (A.slot j)) 255 full)
      (counted-entry along j here e (omega (arith, good.overflows, first))))

  pub extremes-count : overflow_count A.n (combined_of Minimum A B) + overflow_count A.n (combined_of Maximum A B)
      ≡ A.k + B.k
  extremes-count =
      let u : ℕ → ℕ = value_of A in
      let v : ℕ → ℕ = value_of B in
      let two : ℕ → ℕ = λ i. overflows (u i) + overflows (v i) in
      rw (overflow_count-sum A.n (combined_of Minimum A B), overflow_count-sum A.n (combined_of Maximum A B))
      (sum_from-plus (λ (i : ℕ). overflows (min (u i) (v i))) (λ (i : ℕ). overflows (max (u i) (v i))) two 0 A.n
      (λ i h₁ h₂. overflow-both (u i) (v i))
      ∙ sym (sum_from-plus (λ (i : ℕ). overflows (u i)) (λ (i : ℕ). overflows (v i)) two 0 A.n (λ i h₁ h₂. refl))
      ∙ ap₂ (λ (x y : ℕ). x + y) (sym (overflow_count-sum A.n u) ∙ overflow_count-is A p.first p.bytes-first)
      (sym (overflow_count-sum A.n v) ∙ ap (λ (m : ℕ). overflow_count m v) (sym p.sizes)
      ∙ overflow_count-is B p.second p.bytes-second))
