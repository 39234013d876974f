-- What a comparison figure is, from what the smaller and the larger distances weigh.
--   parts_are        its numerator and denominator
--   parts-fit        the difference is not negative, and neither part is above 2 ^ 53
--   figure-refused   a refused pair
--   figure-ready     two maps with counts c, as the code has it
--   figure-exact     two maps with counts c: both parts are at most 2 ^ 53, so that both are floats without loss, and
--                    the figure is the float that is nearest to their fraction
-- Axioms: none.
use Rattle.std.proofs.Common.{Ok, Err}
use mathlib.Core.Path.{◌≡◌, refl, sym, ap, ap₂, ◌∙◌}
use Prim.Native.Nat.{ℕ, ◌+◌, ◌-◌, ◌^◌, ◌≤◌, ◌<◌, min, max}
use native.Mathlib.Omega.{arith}
use native.Mathlib.Decide.{dec_le}
use mathlib.Core.Bool.{Bool, true, false, ◌&&◌, ◌||◌, xor}
use mathlib.Core.List.{List}
use lib.ListN.{length}
use lib.Dec.{leb}
use lib.Ieee.{Float, binary64, round}
use borrow.Author.Tests.{le-leb, lt-leb}
use Rattle.pciv_bytes.specs.Ranges.{flag, sum_from}
use Rattle.pciv_bytes.specs.LittleEndian.{Bytes}
use Rattle.pciv_passes.specs.declared.extremes.Extremes.{Extremes}
use Rattle.pciv_bytes.proofs.SumLaws.{sum_from-cong, sum_from-plus, sum_from-flag-le}
use Rattle.pciv_format.specs.Layout.{at}
use Rattle.pciv_format.specs.Refusals.{Outcome}
use Rattle.pciv_format.specs.Parts.{value_of}
use Rattle.pciv_format.specs.Check.{file_parts}
use Rattle.pciv_format.specs.Read.{list_of, total}
use Rattle.pciv_format.specs.Figures.{quotient, distance_between, bray_curtis_outcome, count_at, jaccard_outcome}
use Rattle.pciv_format.specs.Arith.{pair_outcome}
use Rattle.pciv_format.specs.declared.Refusal.{Refusal}
use Rattle.pciv_format.proofs.ReadLaws.{length-list_of, at-list, total-is}
use Rattle.pciv_check.specs.Pair.{pair_counts, CheckedPair}
use Rattle.pciv_check.specs.declared.pair.PairCounts.{PairCounts}
use Rattle.pciv_check.proofs.PairLaws.{pair-checked, pair_outcome-ready, pair_outcome-refused}
use Rattle.pciv_format.proofs.MapLaws.{sum_lt}
use Rattle.pciv_compare.specs.Weigh.{weight_of, over, Weighed}
use Rattle.pciv_compare.specs.Figure.{figure_outcome, numerator_of, denominator_of, divisor_of}
use Rattle.pciv_compare.specs.declared.weigh.Weight.{Weight}
use Rattle.pciv_compare.specs.declared.weigh.Weight.TheVariants.{Distance, From}
use Rattle.pciv_compare.proofs.WeighLaws.{weighed-both}
use Rattle.pciv_format.proofs.QuotientLaws.{quotient-nearest}

-- ---- at one slot

-- the smaller of two is at t or above where both are, and the larger one where either is
leb-min : (t x y : ℕ) → leb t (min x y) ≡ (leb t x && leb t y)
leb-min t x y =
    elim (dec_le t x) [
      | yes d ↦
          elim (dec_le t y) [
            | yes e ↦ rw (le-leb t x d, le-leb t y e) (le-leb t (min x y) (omega arith))
            | no e ↦ rw (le-leb t x d, lt-leb t y (omega arith)) (lt-leb t (min x y) (omega arith))
          ]
      | no d ↦ rw (lt-leb t x (omega arith)) (lt-leb t (min x y) (omega arith))
    ]

leb-max : (t x y : ℕ) → leb t (max x y) ≡ (leb t x || leb t y)
leb-max t x y =
    elim (dec_le t x) [
      | yes d ↦ rw (le-leb t x d) (le-leb t (max x y) (omega arith))
      | no d ↦
          elim (dec_le t y) [
            | yes e ↦ rw (lt-leb t x (omega arith), le-leb t y e) (le-leb t (max x y) (omega arith))
            | no e ↦ rw (lt-leb t x (omega arith), lt-leb t y (omega arith)) (lt-leb t (max x y) (omega arith))
          ]
    ]

flag-xor : (p q : Bool) → flag (xor p q) + flag (p && q) ≡ flag (p || q)
unfolding xor
flag-xor true true = refl
flag-xor true false = refl
flag-xor false true = refl
flag-xor false false = refl

-- ---- over all slots of two checked maps

module _ (a b : List ℕ) (n ka kb : ℕ) (pair : CheckedPair a b n ka kb) where
  abbrev u : ℕ → ℕ
  u = value_of (file_parts a n ka)

  abbrev v : ℕ → ℕ
  v = value_of (file_parts b n kb)

  -- f of the two distances at every slot of the lists
  over-lists : (f : ℕ → ℕ → ℕ)
      → sum_from (λ (i : ℕ). f (at (list_of a) i) (at (list_of b) i)) 0 (length (list_of a))
      ≡ sum_from (λ (i : ℕ). f (u i) (v i)) 0 n
  over-lists f =
      let ha = pair.first.header in
      let hb = pair.second.header in
      rw (length-list_of a, ha.n_is)
      (sum_from-cong (λ (i : ℕ). f (at (list_of a) i) (at (list_of b) i)) (λ (i : ℕ). f (u i) (v i)) 0 n
      (λ i h₁ h₂.
      ap₂ f (at-list a n ka ha.n_is ha.k_is i (omega arith))
      (at-list b n kb hb.n_is hb.k_is i (omega arith))))

  totals : total (list_of a) + total (list_of b) ≡ sum_from u 0 n + sum_from v 0 n
  totals =
      let ha = pair.first.header in
      let hb = pair.second.header in
      ap₂ (λ (x y : ℕ). x + y) (total-is a n ka ha.n_is ha.k_is) (total-is b n kb hb.n_is hb.k_is)

  -- the numerator and what the smaller distances weigh are what the larger ones do
  numerator-is : (w : Weight)
      → numerator_of w (list_of a) (list_of b) + over min (weight_of w) u v n ≡ over max (weight_of w) u v n
  unfolding distance_between count_at
  numerator-is Distance =
      rw (over-lists (λ (x y : ℕ). (x - y) + (y - x)))
      (sum_from-plus (λ (i : ℕ). (u i - v i) + (v i - u i)) (λ (i : ℕ). min (u i) (v i))
      (λ (i : ℕ). max (u i) (v i)) 0 n (λ i h₁ h₂. omega arith))
  numerator-is (From t) =
      rw (over-lists (λ (x y : ℕ). flag (xor (leb t x) (leb t y))))
      (sum_from-plus (λ (i : ℕ). flag (xor (leb t (u i)) (leb t (v i)))) (λ (i : ℕ). flag (leb t (min (u i) (v i))))
      (λ (i : ℕ). flag (leb t (max (u i) (v i)))) 0 n
      (λ i h₁ h₂. rw (leb-min t (u i) (v i), leb-max t (u i) (v i)) (flag-xor (leb t (u i)) (leb t (v i)))))

  -- those at t or above in either map
  either_is : (t : ℕ) → count_at ◌||◌ t (list_of a) (list_of b) ≡ over max (weight_of (From t)) u v n
  unfolding count_at
  either_is t =
      over-lists (λ (x y : ℕ). flag (leb t x || leb t y))
      ∙ sum_from-cong (λ (i : ℕ). flag (leb t (u i) || leb t (v i))) (λ (i : ℕ). flag (leb t (max (u i) (v i)))) 0 n
      (λ i h₁ h₂. ap flag (sym (leb-max t (u i) (v i))))

  module _ (r : Extremes) where
    denominator-is : (w : Weight) → Weighed (weight_of w) u v n r
        → denominator_of w (list_of a) (list_of b) ≡ divisor_of w r.least r.most
    denominator-is Distance x = totals ∙ sym (weighed-both (weight_of Distance) u v n r x)
    denominator-is (From t) x = either_is t ∙ sym x.most

    pub parts_are : (w : Weight) → Weighed (weight_of w) u v n r
        → (numerator_of w (list_of a) (list_of b) ≡ r.most - r.least)
        × (denominator_of w (list_of a) (list_of b) ≡ divisor_of w r.least r.most)
    parts_are w x = (omega (arith, x.least, x.most, numerator-is w), denominator-is w x)

    weights-le : Bytes a → Bytes b → (w : Weight) → Weighed (weight_of w) u v n r → r.least + r.most ≤ 2 ^ 53
    weights-le bytes_a bytes_b Distance x =
        omega (
          arith,
          weighed-both (weight_of Distance) u v n r x,
          sum_lt a n ka pair.first bytes_a,
          sum_lt b n kb pair.second bytes_b,
        )
    weights-le bytes_a bytes_b (From t) x =
        omega (
          arith,
          x.least,
          x.most,
          pair.first.header.small,
          sum_from-flag-le (λ (i : ℕ). leb t (min (u i) (v i))) 0 n,
          sum_from-flag-le (λ (i : ℕ). leb t (max (u i) (v i))) 0 n,
        )

    divisor-le : (w : Weight) → divisor_of w r.least r.most ≤ r.least + r.most
    divisor-le Distance = omega arith
    divisor-le (From t) = omega arith

    pub parts-fit : Bytes a → Bytes b → (w : Weight) → Weighed (weight_of w) u v n r
        → (r.least ≤ r.most) × (r.least + r.most ≤ 2 ^ 53) × (divisor_of w r.least r.most ≤ 2 ^ 53)
    parts-fit bytes_a bytes_b w x =
        let all = weights-le bytes_a bytes_b w x in
        (omega (arith, x.least, x.most, numerator-is w), all, omega (arith, divisor-le w))

-- ---- the figures of two files

-- what follows the check
abbrev fraction : Weight → List ℕ → List ℕ → ℕ → Outcome Float
fraction w a b n = Ok (quotient (numerator_of w (list_of a) (list_of b)) (denominator_of w (list_of a) (list_of b)))

figure-is : (w : Weight) (a b : List ℕ) → figure_outcome w a b ≡ pair_outcome a b (fraction w a b)
unfolding bray_curtis_outcome jaccard_outcome
figure-is Distance a b = refl
figure-is (From t) a b = refl

module _ (w : Weight) (a b : List ℕ) where
  pub figure-refused : (r : Refusal) → pair_counts a b ≡ Err r → figure_outcome w a b ≡ Err r
  figure-refused r e = figure-is w a b ∙ pair_outcome-refused a b (fraction w a b) r e

  module _ (c : PairCounts) (e : pair_counts a b ≡ Ok c) where
    checked : CheckedPair a b c.n c.ka c.kb
    checked = pair-checked a b c e

    figure-done : figure_outcome w a b ≡ fraction w a b c.n
    figure-done = figure-is w a b ∙ pair_outcome-ready a b (fraction w a b) c e

    pub figure-ready : (r : Extremes)
        → Weighed (weight_of w) (value_of (file_parts a c.n c.ka)) (value_of (file_parts b c.n c.kb)) c.n r
        → figure_outcome w a b ≡ Ok (quotient (r.most - r.least) (divisor_of w r.least r.most))
    figure-ready r x =
        let are = parts_are a b c.n c.ka c.kb checked r w x in
        figure-done ∙ ap Ok (ap₂ quotient are.0 are.1)

    pub figure-exact : Bytes a → Bytes b
        → let p : ℕ = numerator_of w (list_of a) (list_of b) in
        let q : ℕ = denominator_of w (list_of a) (list_of b) in
        (p ≤ 2 ^ 53) × (q ≤ 2 ^ 53) × (0 < q → figure_outcome w a b ≡ Ok (round binary64 false p q))
    figure-exact bytes_a bytes_b =
        let u : ℕ → ℕ = value_of (file_parts a c.n c.ka) in
        let v : ℕ → ℕ = value_of (file_parts b c.n c.kb) in
        let f : ℕ → ℕ = weight_of w in
        let r : Extremes = record { least = over min f u v c.n; most = over max f u v c.n } in
        let x : Weighed (weight_of w) u v c.n r = record { least = refl; most = refl } in
        let are = parts_are a b c.n c.ka c.kb checked r w x in
        let fit = parts-fit a b c.n c.ka c.kb checked r bytes_a bytes_b w x in
        let p : numerator_of w (list_of a) (list_of b) ≤ 2 ^ 53 = omega (arith, are.0, fit.1) in
        let q : denominator_of w (list_of a) (list_of b) ≤ 2 ^ 53 = omega (arith, are.1, fit.2) in
        (p, q, λ above. figure-done ∙ ap Ok (quotient-nearest _ _ p q above))
