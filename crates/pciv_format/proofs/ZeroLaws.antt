-- Laws of zero distances ("holes"): the near mask leaves them out; a shift keeps them, and makes none of the others
-- ("readings").
--   shift-up, -down    a shift by a number of either sign, on whole numbers that are not negative
--   shift-hole         a shifted distance is 0 exactly where the distance is
--   shift-reading      another one becomes x + d, or 1 where that is 0 or below
--   shift-readings     a shifted list has as many readings, for every d
--   shift-file         the file of a list becomes the file of the list of shifted distances
--   shift-large        refusal 11 names a slot whose distance is not 0
--   near-iff, _none    the near mask's test says: from 1 to t; it fails above t
--   near-mask-has      a bit of the near mask of a list's file, over any number of words
--   near-mask-empty    at t = 0 all words are 0
--   near-at-most       it is the mask for at most t without the zero distances
-- Axioms: none.
use Rattle.std.proofs.Common.{Ok, Err}
use Rattle.pciv_format.specs.declared.RefusalKind.TheVariants.{DistanceOverflow, BufferTooSmall}
use mathlib.Core.Path.{◌≡◌, refl, sym, ap, ◌∙◌, subst, fun_ext}
use Prim.Native.Nat.{ℕ, suc, ◌+◌, ◌-◌, ◌*◌, ◌/◌, ◌%◌, ◌≤◌, ◌<◌, min, max}
use native.Mathlib.Omega.{arith}
use native.Mathlib.Decide.{dec_le, ℕ_discrete}
use mathlib.Core.Bool.{Bool, true, false, not, cond, ◌&&◌}
use mathlib.Core.List.{List, ◌++◌, map}
use lib.ListN.{length, drop, get_or, replicate, length-map, length-replicate, get_or-map, get_or-append, get_or-eq_default}
use lib.IntN.{ℤ, pos, negsuc, ◌+ℤ◌}
use lib.Signed.{le_z}
use lib.Dec.{ltb, leb, eqb, lit<}
use borrow.Author.Tests.{le-leb, lt-leb, leb-true, leb-false, ltb-true, le-ltb, lt-ltb, eq-eqb, ne_eqb}
use Rattle.pciv_bytes.specs.Ranges.{flag, first_below, table}
use Rattle.pciv_bytes.proofs.RangesLaws.{first_below-has, length-table}
use Rattle.pciv_bytes.proofs.SumLaws.{sum_from-cong}
use Rattle.pciv_format.specs.Layout.{max_distance, file, at, file_of, Limits}
use Rattle.pciv_format.specs.Refusals.{Outcome, refuse, refuse_if, written, number_of}
use Rattle.pciv_format.specs.Read.{readings, items_into}
use Rattle.pciv_format.specs.Write.{map_into}
use Rattle.pciv_format.specs.Mask.{mask_len, bit_at, mask_has, mask_of, is_near, threshold_words}
use Rattle.pciv_format.specs.Mask.{near_mask_words}
use Rattle.pciv_format.specs.Arith.{at_least_zero, shifted_by, shift_outcome, shift_buffer}
use Rattle.pciv_format.specs.declared.Summary.{Summary}
use Rattle.pciv_format.specs.declared.Refusal.{Refusal}
use Rattle.pciv_format.specs.declared.Comparison.TheVariants.{AtMost}
use Rattle.pciv_format.proofs.PartsLaws.{and-false}
use Rattle.pciv_format.proofs.BitLaws.{bit_at-none}
use Rattle.pciv_format.proofs.ReadLaws.{items-fit}
use Rattle.pciv_format.proofs.MaskLaws.{mask_has-mask_of, mask_has-mask_of-past, length-mask_of}
use Rattle.pciv_format.proofs.MaskLaws.{table-mask_of}
use Rattle.pciv_format.proofs.ListLaws.{Writes, file-threshold, file-near_mask, shifted_at, file-shift}

-- ---- a shift, one distance

pub shift-up : (m x : ℕ) → shifted_by (pos m) x ≡ cond (eqb x 0) 0 (x + m)
unfolding shifted_by
shift-up m x =
    elim (ℕ_discrete x 0) [
      | yes e ↦ rw e
      | no ne ↦ rw (ne_eqb x 0 ne) (omega arith)
    ]

pub shift-down : (m x : ℕ) → shifted_by (negsuc m) x ≡ max (x - suc m) (min x 1)
unfolding shifted_by
shift-down m x =
    elim (ℕ_discrete x 0) [
      | yes e ↦ rw e (omega arith)
      | no ne ↦ elim (dec_le (suc m) x) [
        | yes h ↦ rw (ne_eqb x 0 ne, le-ltb x (suc m) h) (omega arith)
        | no h ↦ rw (ne_eqb x 0 ne, lt-ltb x (suc m) (omega arith)) (omega arith)
      ]
    ]

pub shift-hole : (d : ℤ) (x : ℕ) → (shifted_by d x ≡ 0 → x ≡ 0) × (x ≡ 0 → shifted_by d x ≡ 0)
unfolding shifted_by
shift-hole d x =
    elim (ℕ_discrete x 0) [
      | yes e ↦ (λ z. e, λ z. rw e)
      | no ne ↦ (λ z. absurd (omega (arith, rw (ne_eqb x 0 ne) at z)), λ e. absurd (ne e))
    ]

pub shift-reading : (d : ℤ) (x : ℕ) → 1 ≤ x
    → (le_z (pos 1) (pos x +ℤ d) ≡ true → pos (shifted_by d x) ≡ pos x +ℤ d)
    × (le_z (pos 1) (pos x +ℤ d) ≡ false → shifted_by d x ≡ 1)
unfolding shifted_by
shift-reading d x h = rw (ne_eqb x 0 (λ e. omega arith)) (at_least_one (pos x +ℤ d))
  where
    at_least_one : (z : ℤ)
        → (le_z (pos 1) z ≡ true → pos (max 1 (at_least_zero z)) ≡ z)
        × (le_z (pos 1) z ≡ false → max 1 (at_least_zero z) ≡ 1)
    at_least_one (pos y) = (
      λ e. ap pos (let g : max 1 y ≡ y = omega (arith, leb-true 1 y e) in g),
      λ e. omega (arith, leb-false 1 y e),
    )
    at_least_one (negsuc y) = (λ e. (let z : ◌≡◌ {A = ℕ} 0 1 = cc in absurd (omega arith)), λ e. refl)

-- ---- a list

same-refusal : {r t : Refusal} → ◌≡◌ {A = Outcome Summary} (Err r) (Err t) → r ≡ t
same-refusal e = cc

module _ (d : ℤ) (xs : List ℕ) where
  shifted_value : (i : ℕ) → at (map (shifted_by d) xs) i ≡ shifted_by d (at xs i)
  shifted_value i = ap (get_or (map (shifted_by d) xs) i) (sym ((shift-hole d 0).1 refl)) ∙ get_or-map (shifted_by d) xs i 0

  hole-same : (x : ℕ) → eqb (shifted_by d x) 0 ≡ eqb x 0
  hole-same x =
      elim (ℕ_discrete x 0) [
        | yes e ↦ eq-eqb (shifted_by d x) 0 ((shift-hole d x).1 e) ∙ sym (eq-eqb x 0 e)
        | no ne ↦ ne_eqb (shifted_by d x) 0 (λ z. ne ((shift-hole d x).0 z)) ∙ sym (ne_eqb x 0 ne)
      ]

  pub shift-readings : readings (map (shifted_by d) xs) ≡ readings xs
  unfolding readings
  shift-readings =
      rw (length-map xs (shifted_by d))
      (sum_from-cong (λ (i : ℕ). flag (not (eqb (at (map (shifted_by d) xs) i) 0))) (λ (i : ℕ). flag (not (eqb (at xs i) 0)))
      0 (length xs) (λ i h₁ h₂. ap (λ (b : Bool). flag (not b)) (ap (λ (x : ℕ). eqb x 0) (shifted_value i) ∙ hole-same (at xs i))))

  pub shift-file : Limits xs
      → (let zs = map (shifted_by d) xs in
      Writes (shift_outcome (file_of xs) d) (shift_buffer (file_of xs) d) (map_into (length zs) (at zs)) (file_of zs))
  shift-file l out =
      subst
      (λ (v : ℕ → ℕ).
      (shift_outcome (file_of xs) d (length out) ≡ map_into (length (map (shifted_by d) xs)) v (length out))
      × (shift_buffer (file_of xs) d out
      ≡ written (map_into (length (map (shifted_by d) xs)) v (length out)) (file (length (map (shifted_by d) xs)) v) out))
      (fun_ext (λ i. sym (shifted_value i))) (rw (length-map xs (shifted_by d)) (file-shift xs l d out))

  -- the slot that refusal 11 names
  pub shift-large : Limits xs → (c i : ℕ) → shift_outcome (file_of xs) d c ≡ refuse DistanceOverflow 0 i → (i < length xs) × (1 ≤ at xs i)
  shift-large l c i e =
      elim (dec_le (length xs) first) [
        | yes none ↦ absurd (other (ltb c (length (file (length xs) (shifted_at d xs)))) _
            (rw (le-ltb first (length xs) none) at into))
        | no some ↦ (let is : first ≡ i = named (rw (lt-ltb first (length xs) (omega arith)) at into) in
            let large : max_distance < shifted_by d (at xs first) =
            ltb-true max_distance (shifted_by d (at xs first)) (first_below-has bad (length xs) (omega arith)) in
            rw (← is) (
              omega arith,
              elim (ℕ_discrete (at xs first) 0)
                  [ yes z ↦ absurd (omega (arith, (shift-hole d (at xs first)).1 z)) | no nz ↦ omega arith ],
            ))
      ]
    where
      bad : ℕ → Bool
      bad j = ltb max_distance (shifted_at d xs j)

      first : ℕ
      first = first_below bad (length xs)

      into : map_into (length xs) (shifted_at d xs) c ≡ refuse DistanceOverflow 0 i
      into = sym (rw (length-replicate {A = ℕ} c 0) at (file-shift xs l d (replicate c 0)).0) ∙ e

      -- the other refusal has another number
      other : (b : Bool) (s : Summary) → refuse_if b (refuse BufferTooSmall 0 0) (Ok s) ≡ refuse DistanceOverflow 0 i → ⊥
      other true s q = omega (arith, ap (λ (r : Refusal). number_of r.kind) (same-refusal q))
      other false s q = let z : ◌≡◌ {A = ℕ} 0 1 = cc in omega arith

      named : {j : ℕ} → ◌≡◌ {A = Outcome Summary} (refuse DistanceOverflow 0 j) (refuse DistanceOverflow 0 i) → j ≡ i
      named q = ap (λ (r : Refusal). r.place) (same-refusal q)

-- ---- the near mask

pub near-iff : (t x : ℕ) → (is_near t x ≡ true → (1 ≤ x) × (x ≤ t)) × (1 ≤ x → x ≤ t → is_near t x ≡ true)
near-iff t x = (
  λ e.
      elim (dec_le 1 x) [
        | yes h ↦ (h, leb-true x t (rw (le-leb 1 x h) at e))
        | no h ↦ (let z : ◌≡◌ {A = ℕ} 0 1 = cc (lt-leb 1 x (omega arith)) in absurd (omega arith))
      ],
  λ h₁ h₂. rw (le-leb 1 x h₁, le-leb x t h₂),
)

pub near_none : (t x : ℕ) → t < x → is_near t x ≡ false
near_none t x h = rw (lt-leb x t h) (and-false (leb 1 x))

-- the words of a mask at the front of others
has-front : (ws rest : List ℕ) (i : ℕ) → i < 64 * length ws → mask_has (ws ++ rest) i ≡ mask_has ws i
unfolding mask_has
has-front ws rest i h = ap (λ (x : ℕ). eqb (bit_at x (i % 64)) 1) (get_or-append ws rest 0 (i / 64) (omega arith))

module _ (xs : List ℕ) (l : Limits xs) (out : List ℕ) (long : mask_len (length xs) ≤ length out) where
  -- a mask of the list, at the front of the caller's words
  front-has : (p : ℕ → Bool) (ws : List ℕ)
      → ws ≡ written (items_into (mask_len (length xs)) (length out)) (mask_of (length xs) p) out
      → (i : ℕ) → i < 64 * mask_len (length xs) → mask_has ws i ≡ mask_has (mask_of (length xs) p) i
  front-has p ws e i h =
      ap (λ (y : List ℕ). mask_has y i)
      (e
      ∙ ap (λ (o : Outcome ℕ). written o (mask_of (length xs) p) out)
      (items-fit (mask_len (length xs)) (length out) long))
      ∙ has-front (mask_of (length xs) p) (drop (length (mask_of (length xs) p)) out) i
      (rw (length-mask_of (length xs) p) h)

  module _ (t : ℕ) where
    abbrev near : ℕ → Bool
    near i = is_near t (at xs i)

    abbrev at_most : ℕ → Bool
    at_most i = leb (at xs i) t

    near-has : (i : ℕ) → i < 64 * mask_len (length xs)
        → mask_has (near_mask_words (file_of xs) t out) i ≡ mask_has (mask_of (length xs) near) i
    near-has = front-has near (near_mask_words (file_of xs) t out) (file-near_mask xs l t out).1

    at_most-has : (i : ℕ) → i < 64 * mask_len (length xs)
        → mask_has (threshold_words AtMost (file_of xs) t out) i ≡ mask_has (mask_of (length xs) at_most) i
    at_most-has = front-has at_most (threshold_words AtMost (file_of xs) t out) (file-threshold xs l AtMost t out).1

    -- set exactly where 1 ≤ x ≤ t; past the last slot `at` gives 0, and no bit is set
    pub near-mask-has : (i : ℕ) → i < 64 * mask_len (length xs)
        → (mask_has (near_mask_words (file_of xs) t out) i ≡ true → (1 ≤ at xs i) × (at xs i ≤ t))
        × (1 ≤ at xs i → at xs i ≤ t → mask_has (near_mask_words (file_of xs) t out) i ≡ true)
    near-mask-has i h = rw (near-has i h ∙ test) (near-iff t (at xs i))
      where
        test : mask_has (mask_of (length xs) near) i ≡ is_near t (at xs i)
        test =
            elim (dec_le (length xs) i) [
              | yes past ↦ mask_has-mask_of-past (length xs) near i past
                  ∙ sym (ap (is_near t) (get_or-eq_default xs 0 past))
              | no inside ↦ mask_has-mask_of (length xs) near i (omega arith)
            ]

    pub near-at-most : (i : ℕ) → i < 64 * mask_len (length xs)
        → mask_has (near_mask_words (file_of xs) t out) i
        ≡ not (eqb (at xs i) 0) && mask_has (threshold_words AtMost (file_of xs) t out) i
    near-at-most i h =
        rw (near-has i h, at_most-has i h)
        (elim (dec_le (length xs) i) [
          | yes past ↦ rw (mask_has-mask_of-past (length xs) near i past, mask_has-mask_of-past (length xs) at_most i past)
              (sym (and-false (not (eqb (at xs i) 0))))
          | no inside ↦ rw (
            mask_has-mask_of (length xs) near i (omega arith),
            mask_has-mask_of (length xs) at_most i (omega arith),
          ) (ap (λ (b : Bool). b && leb (at xs i) t) (from_one (at xs i)))
        ])
      where
        from_one : (x : ℕ) → leb 1 x ≡ not (eqb x 0)
        from_one x =
            elim (ℕ_discrete x 0) [
              | yes e ↦ rw e
              | no ne ↦ rw (le-leb 1 x (omega arith), ne_eqb x 0 ne)
            ]

  pub near-mask-empty : near_mask_words (file_of xs) 0 out
      ≡ table (λ (w : ℕ). 0) 0 (mask_len (length xs)) ++ drop (mask_len (length xs)) out
  near-mask-empty =
      (file-near_mask xs l 0 out).1
      ∙ rw (items-fit (mask_len (length xs)) (length out) long, words) (rw (length-table {A = ℕ} (λ (w : ℕ). 0) 0 (mask_len (length xs))))
    where
      none : (x : ℕ) → is_near 0 x ≡ false
      none x = elim (ℕ_discrete x 0) [ yes e ↦ rw e | no ne ↦ near_none 0 x (omega arith) ]

      words : mask_of (length xs) (λ (i : ℕ). is_near 0 (at xs i)) ≡ table (λ (w : ℕ). 0) 0 (mask_len (length xs))
      words =
          sym (table-mask_of (length xs) (λ (i : ℕ). is_near 0 (at xs i)) (λ (w : ℕ). 0) (λ w. lit< tt)
          (λ w j l i. bit_at-none j ∙ sym (ap flag (none (at xs (64 * w + j))))) (λ w j l p. bit_at-none j))
