-- A count of the bytes 255, where every overflow entry is right.
--   is_full P i        1 where the byte of slot i is 255
--   count-one         a byte 255 within a range counts there
--   count-complete    where the bytes 255 are as many as the entries, every byte 255 has an entry
-- Axioms: none.
use mathlib.Core.Path.{◌≡◌, refl, sym, ap, ◌∙◌}
use Prim.Native.Nat.{ℕ, zero, suc, ◌+◌, ◌-◌, ◌≤◌, ◌<◌}
use native.Mathlib.Nat.{sub-zero}
use native.Mathlib.Omega.{arith}
use native.Mathlib.Decide.{dec_le}
use mathlib.Core.Bool.{Bool, true, false}
use lib.Dec.{leb, eqb}
use borrow.Author.Tests.{leb-true, leb-false, eq-eqb, eqb-true}
use Rattle.pciv_bytes.specs.Ranges.{flag, first_below, sum_from}
use Rattle.pciv_bytes.proofs.RangesLaws.{true-false, first_below-clear, first_below-has, first_below-le}
use Rattle.pciv_bytes.proofs.SumLaws.{sum_from-more, sum_from-split}
use Rattle.pciv_format.specs.Parts.{Parts, bad_slot, EntriesRight}
use Rattle.pciv_format.proofs.PartsLaws.{entry_at, entries-rise}
use Rattle.pciv_format.proofs.BadSlotLaws.{bad_slot-inline, bad_slot-entry}

abbrev pub is_full : Parts → ℕ → ℕ
is_full P i = flag (eqb (P.byte i) 255)

pub count-one : (P : Parts) (lo s hi : ℕ) → lo ≤ s → s < hi → P.byte s ≡ 255
    → sum_from (is_full P) lo (hi - lo) ≡ sum_from (is_full P) lo (s - lo) + (1 + sum_from (is_full P) (s + 1) (hi - (s + 1)))
count-one P lo s hi h₁ h₂ full =
    let one : is_full P s ≡ 1 = ap flag (eq-eqb (P.byte s) 255 full) in
    sum_from-split (is_full P) lo s hi h₁ (omega arith) ∙ omega (arith, sum_from-more (is_full P) s hi h₂)

module _ (P : Parts) (right : EntriesRight P) where
  -- d entries from j on, with slots from lo up to hi
  count_entries : (d j lo hi : ℕ) → j + d ≤ P.k → ((t : ℕ) → j ≤ t → t < j + d → (lo ≤ P.slot t) × (P.slot t < hi))
      → d ≤ sum_from (is_full P) lo (hi - lo)
  count_entries zero j lo hi inside range = omega arith
  count_entries (suc d) j lo hi inside range =
      let s : ℕ = P.slot j in
      let here = range j (omega arith) (omega arith) in
      let rest = count_entries d (j + 1) (s + 1) hi (omega arith)
      (λ t h₁ h₂. (
        omega (arith, entries-rise P right j t (omega arith) (omega arith)),
        (range t (omega arith) (omega arith)).1,
      )) in
      omega (arith, count-one P lo s hi here.0 here.1 (entry_at P right j (omega arith)).marked)

  -- a byte 255 with no entry is one too many
  count-more : (i : ℕ) → i < P.n → P.byte i ≡ 255 → ((t : ℕ) → t < P.k → P.slot t ≡ i → ⊥)
      → P.k < sum_from (is_full P) 0 P.n
  count-more i h full none =
      let p : ℕ → Bool = λ t. leb i (P.slot t) in
      let r : ℕ = first_below p P.k in
      let le : r ≤ P.k = first_below-le p P.k in
      let low : r ≤ sum_from (is_full P) 0 (i - 0) =
      count_entries r 0 0 i (omega arith)
      (λ t h₁ h₂. (omega arith, leb-false i (P.slot t) (first_below-clear p P.k t (omega arith)))) in
      let high : P.k - r ≤ sum_from (is_full P) (i + 1) (P.n - (i + 1)) =
      count_entries (P.k - r) r (i + 1) P.n (omega arith)
      (λ t h₁ h₂. (past t h₁ (omega arith), (entry_at P right t (omega arith)).inside)) in
      omega (arith, count-one P 0 i P.n (omega arith) h full, ap (sum_from (is_full P) 0) (sub-zero P.n))
    where
      past : (t : ℕ) → first_below (λ (t : ℕ). leb i (P.slot t)) P.k ≤ t → t < P.k → i + 1 ≤ P.slot t
      past t h₁ h₂ =
          let p : ℕ → Bool = λ t. leb i (P.slot t) in
          let r : ℕ = first_below p P.k in
          let first : i ≤ P.slot r = leb-true i (P.slot r) (first_below-has p P.k (omega arith)) in
          elim (dec_le t r) [
            | yes d ↦ (let q : t ≡ r = omega arith in
                elim (dec_le (P.slot t) i)
                [ yes e ↦ absurd (none t h₂ (omega (arith, ap P.slot q))) | no e ↦ omega arith ])
            | no d ↦ omega (arith, entries-rise P right r t (omega arith) h₂)
          ]

  pub count-complete : sum_from (is_full P) 0 P.n ≡ P.k → (i : ℕ) → i < P.n → bad_slot P i ≡ false
  count-complete count i h = go (bad_slot P i) refl (eqb (P.byte i) 255) refl
    where
      go : (b : Bool) → bad_slot P i ≡ b → (f : Bool) → eqb (P.byte i) 255 ≡ f → bad_slot P i ≡ false
      go false e f q = e
      go true e true q =
          let more = count-more i h (eqb-true _ _ q) (λ t ht w. true-false (sym e ∙ bad_slot-entry P i t ht w)) in
          absurd (omega (arith, more))
      go true e false q = bad_slot-inline P i (λ w. true-false (sym (eq-eqb (P.byte i) 255 w) ∙ q))
