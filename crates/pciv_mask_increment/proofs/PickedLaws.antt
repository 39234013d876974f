-- What is picked at the set bits of a word, and where they are.
--   picked-lowest        what is picked at the lowest set bit, and at the bits that are left
--   picked_none, -zero   nothing is picked of no bits, and of zeros alone
--   picked-le            at most one is picked for each bit
--   picked-sum           what is picked, as a sum over all places
--   below_less, -mask    the set bits that are left, and those of a mask, stay below a bound
-- Axioms: none.
use mathlib.Core.Path.{◌≡◌, refl, sym, ap, ap₂, ◌∙◌}
use Prim.Native.Nat.{ℕ, zero, suc, ◌+◌, ◌-◌, ◌*◌, ◌/◌, ◌%◌, ◌^◌, ◌≤◌, ◌<◌}
use native.Mathlib.Nat.{add-zero}
use native.Mathlib.Omega.{arith}
use native.Mathlib.Decide.{dec_le}
use mathlib.Core.Bool.{true}
use mathlib.Core.List.{List}
use lib.ListN.{get_or}
use lib.Bits.{bit_and}
use lib.Count.{count_trailing_zeros, under}
use borrow.Author.Tests.{eq-eqb}
use Rattle.pciv_bytes.specs.Ranges.{sum_from}
use Rattle.pciv_bytes.proofs.RangesLaws.{true-false}
use Rattle.pciv_format.specs.Mask.{bit_at, mask_has}
use Rattle.pciv_format.specs.Words.{Words, IsMask}
use Rattle.pciv_format.proofs.BitLaws.{bit_at-le, bit_at-lowest, bit_at-suc, bit_at-and, bit_at-past, half_pos}
use Rattle.pciv_format.proofs.BitLaws.{less-even, less-odd}
use Rattle.pciv_format.proofs.MaskLaws.{mask_has-bit}
use Rattle.pciv_mask_increment.specs.Raised.{picked, SetBelow}

-- ---- what is picked

module _ (g : ℕ → ℕ) where
  picked-even : (i c y z : ℕ) → y % 2 ≡ 0 → y / 2 ≡ z → picked g i (suc c) y ≡ picked g (suc i) c z
  unfolding picked
  picked-even i c y z even half = rw (even, half) (omega arith)

  picked-odd : (i c x : ℕ) → x % 2 ≡ 1 → picked g i (suc c) x ≡ g i + picked g (suc i) c (x / 2)
  unfolding picked
  picked-odd i c x odd = rw odd (omega arith)

  pub picked-lowest : (c i x : ℕ) → 0 < x → x < 2 ^ c
      → picked g i c x ≡ g (i + count_trailing_zeros c x) + picked g i c (bit_and x (x - 1))
  unfolding count_trailing_zeros
  picked-lowest zero i x pos small = absurd (omega arith)
  picked-lowest (suc c) i x pos small = go (x % 2) refl (picked-lowest c (suc i) (x / 2))
    where
      go : (d : ℕ) → x % 2 ≡ d
          → (0 < x / 2 → x / 2 < 2 ^ c
          → picked g (suc i) c (x / 2)
          ≡ g (suc i + count_trailing_zeros c (x / 2)) + picked g (suc i) c (bit_and (x / 2) (x / 2 - 1)))
          → picked g i (suc c) x ≡ g (i + under d (count_trailing_zeros c (x / 2))) + picked g i (suc c) (bit_and x (x - 1))
      go zero e rest =
          let h = half_pos c x pos small e in
          let y : ℕ = bit_and x (x - 1) in
          let z : ℕ = bit_and (x / 2) (x / 2 - 1) in
          let less = less-even x pos e in
          let place : suc i + count_trailing_zeros c (x / 2) ≡ i + suc (count_trailing_zeros c (x / 2)) = omega arith in
          picked-even i c x (x / 2) e refl
          ∙ rest h.0 h.1
          ∙ ap₂ (λ (s m : ℕ). g s + m) place (sym (picked-even i c y z less.0 less.1))
      go (suc d) e rest =
          let odd : x % 2 ≡ 1 = omega arith in
          let y : ℕ = bit_and x (x - 1) in
          let less = less-odd x odd in
          picked-odd i c x odd
          ∙ ap₂ (λ (s m : ℕ). g s + m) (sym (add-zero i)) (sym (picked-even i c y (x / 2) less.0 less.1))

  pub picked_none : (c i : ℕ) → picked g i c 0 ≡ 0
  unfolding picked
  picked_none zero i = refl
  picked_none (suc c) i = omega (arith, picked_none c (suc i))

  -- where every g is 0
  pub picked-zero : (c i x : ℕ) → ((j : ℕ) → i ≤ j → j < i + c → g j ≡ 0) → picked g i c x ≡ 0
  unfolding picked
  picked-zero zero i x none = refl
  picked-zero (suc c) i x none =
      let rest = picked-zero c (suc i) (x / 2) (λ j h₁ h₂. none j (omega arith) (omega arith)) in
      rw (none i (omega arith) (omega arith)) (omega (arith, rest))

  pub picked-le : ((j : ℕ) → g j ≤ 1) → (c i x : ℕ) → picked g i c x ≤ c
  unfolding picked
  picked-le each zero i x = omega arith
  picked-le each (suc c) i x = go (x % 2) refl (picked-le each c (suc i) (x / 2))
    where
      go : (d : ℕ) → x % 2 ≡ d → picked g (suc i) c (x / 2) ≤ c → d * g i + picked g (suc i) c (x / 2) ≤ suc c
      go zero e rest = omega arith
      go (suc zero) e rest = omega (arith, each i)
      go (suc (suc d)) e rest = absurd (omega arith)

  pub picked-sum : (f : ℕ → ℕ) (c i x : ℕ) → ((t : ℕ) → t < c → f (i + t) ≡ bit_at x t * g (i + t))
      → picked g i c x ≡ sum_from f i c
  unfolding picked sum_from
  picked-sum f zero i x same = refl
  picked-sum f (suc c) i x same =
      let first : x % 2 * g i ≡ f i = sym (rw (add-zero i, bit_at-lowest x) at (same 0 (omega arith))) in
      let rest =
      picked-sum f c (suc i) (x / 2)
      (λ t h.
      (let e : suc i + t ≡ i + suc t = omega arith in
      rw e (same (suc t) (omega arith) ∙ ap (λ (b : ℕ). b * g (i + suc t)) (bit_at-suc x t)))) in
      ap₂ (λ (a b : ℕ). a + b) first rest

-- ---- the places of the set bits

pub below_less : (to i x y : ℕ) → SetBelow to i x → SetBelow to i (bit_and x y)
below_less to i x y below j on = below j (omega (arith, bit_at-and x y j, bit_at-le x j))

pub below-mask : (n : ℕ) (ws : List ℕ) → Words ws → IsMask n ws → (w : ℕ) → SetBelow n (64 * w) (get_or ws w 0)
below-mask n ws words mask w j on =
    elim (dec_le 64 j) [
      | yes past ↦ absurd (omega (arith, bit_at-past (get_or ws w 0) 64 j (words w) past))
      | no inside ↦ elim (dec_le n (64 * w + j)) [
        | yes out ↦ (let set : mask_has ws (64 * w + j) ≡ true =
            mask_has-bit ws w j (omega arith) ∙ eq-eqb (bit_at (get_or ws w 0) j) 1 on in
            absurd (true-false (sym set ∙ mask.past (64 * w + j) out)))
        | no d ↦ omega arith
      ]
    ]
