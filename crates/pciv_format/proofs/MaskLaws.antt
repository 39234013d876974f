-- Laws of masks, over any number of words.
--   mask_has-bit, -at, flag-mask_has    slot 64 w + j is bit j of word w, as a test and as a number
--   mask_has-past           slots past the last word are not set
--   bit-of-word, slot-bit  a slot as a number, and bit by bit;  word-of-mask  a word is 64 slots
--   words-ext              lists of words with the same slots are equal
--   is_mask, mask-covers    how to tell a mask; its words have all of its slots
--   sum-slots              a sum over all slots of its words, where those past n do not count;  set_bits-sum  of set bits
--   mask_word n p w         word w of the mask made of p;  -lt, -full, -last
--   mask_of-table, length-mask_of, get_or-mask_of, mask_of-words    it has these words, to be written one by one
--   mask_has-mask_of, -past  its slots;  mask_of-good  it is a mask
--   mask_of-unique, -cong   it is the only mask with these slots
--   set_bits-mask_of         it has as many set bits as there are slots with the property
--   table-mask_of           words with these bits are its words
--   ones-mask_has           the count of ones of a word is that of its slots
--   bad_mask-good, good-bad_mask    what is not bad is a mask, and conversely;  or-false  neither of two tests
--   bad_mask-count, -whole, -last    how to tell: by the number of words, and by the bits past n of the last
-- Axioms: none.
use mathlib.Core.Path.{◌≡◌, refl, sym, ap, ◌∙◌}
use Prim.Native.Nat.{ℕ, zero, suc, ◌+◌, ◌-◌, ◌*◌, ◌/◌, ◌%◌, ◌^◌, ◌≤◌, ◌<◌, min}
use native.Mathlib.Nat.{zero-add, sub-zero}
use native.Mathlib.Omega.{arith}
use native.Mathlib.Decide.{dec_le}
use mathlib.Core.Bool.{Bool, true, false, not, cond, ◌||◌}
use mathlib.Core.List.{List}
use lib.ListN.{length, get_or, get_or-eq_default}
use lib.Seq.{ext_get_or}
use lib.Count.{ones}
use lib.Dec.{ltb, eqb}
use lib.Pow.{pow_mono, shr_lt}
use borrow.Author.Tests.{le-ltb, ltb-false, eq-eqb, ne_eqb, eqb-true, not-true, not-false}
use Rattle.pciv_bytes.specs.Ranges.{flag, first_from, table, sum_from}
use Rattle.pciv_bytes.proofs.RangesLaws.{true-false, length-table, get_or-table, table-cong, table-shift, flag-zero}
use Rattle.pciv_bytes.proofs.SumLaws.{sum_from-cong, sum_from-shift, sum_from-split, sum_from-le}
use Rattle.pciv_format.specs.Mask.{mask_len, bit_at, mask_has, mask_value, word, mask_of, bad_mask, set_bits}
use Rattle.pciv_format.specs.Words.{Words, IsMask}
use Rattle.pciv_format.proofs.BitLaws.{eqb-flag, flag-bit_at, bit_at-none, bit_at-shr, bits-inj}
use Rattle.pciv_format.proofs.BitLaws.{bits_none, word_lt, bit_at-word, bit_at-word-past, ones-bits}

-- ---- slots and bits

pub mask_has-bit : (ws : List ℕ) (w j : ℕ) → j < 64 → mask_has ws (64 * w + j) ≡ eqb (bit_at (get_or ws w 0) j) 1
unfolding mask_has
mask_has-bit ws w j h =
    let e : (64 * w + j) / 64 ≡ w = omega arith in
    let g : (64 * w + j) % 64 ≡ j = omega arith in
    rw (e, g)

-- slot i, by its word and bit
pub mask_has-at : (ws : List ℕ) (i x b : ℕ) → get_or ws (i / 64) 0 ≡ x → bit_at x (i % 64) ≡ b → mask_has ws i ≡ eqb b 1
unfolding mask_has
mask_has-at ws i x b e g = rw (e, g)

-- as a number
pub flag-mask_has : (ws : List ℕ) (w j : ℕ) → j < 64 → flag (mask_has ws (64 * w + j)) ≡ bit_at (get_or ws w 0) j
flag-mask_has ws w j h = ap flag (mask_has-bit ws w j h) ∙ flag-bit_at (get_or ws w 0) j

-- slot i as a number, by its word and bit
pub bit-of-word : (ws : List ℕ) (i : ℕ) → get_or ws (i / 64) 0 / 2 ^ (i % 64) % 2 ≡ mask_value ws i
unfolding bit_at
bit-of-word ws i =
    let e : 64 * (i / 64) + i % 64 ≡ i = omega arith in
    sym (flag-mask_has ws (i / 64) (i % 64) (omega arith)) ∙ ap (mask_value ws) e

-- the bits of the word that has the slots from i on
pub slot-bit : (ws : List ℕ) (i t : ℕ) → i % 64 ≡ 0 → t < 64 → bit_at (get_or ws (i / 64) 0) t ≡ mask_value ws (i + t)
slot-bit ws i t whole h =
    let e : 64 * (i / 64) + t ≡ i + t = omega arith in
    sym (flag-mask_has ws (i / 64) t h) ∙ ap (mask_value ws) e

pub word-of-mask : (ws : List ℕ) (i : ℕ) → i % 64 ≡ 0
    → table (bit_at (get_or ws (i / 64) 0)) 0 64 ≡ table (mask_value ws) i 64
word-of-mask ws i whole =
    let x : ℕ = get_or ws (i / 64) 0 in
    table-shift (bit_at x) (mask_value ws) 0 i 64 (λ t h. ap (bit_at x) (zero-add t) ∙ slot-bit ws i t whole h)

-- past the last word
pub mask_has-past : (ws : List ℕ) (i : ℕ) → 64 * length ws ≤ i → mask_has ws i ≡ false
mask_has-past ws i past =
    mask_has-at ws i 0 0 (get_or-eq_default ws 0 (omega arith)) (bit_at-none (i % 64))

pub words-ext : (xs ys : List ℕ) → Words xs → Words ys → length xs ≡ length ys
    → ((i : ℕ) → i < 64 * length xs → mask_has xs i ≡ mask_has ys i) → xs ≡ ys
words-ext xs ys hx hy same_length same =
    ext_get_or 0 xs ys same_length
    (λ w h.
    bits-inj 64 (get_or xs w 0) (get_or ys w 0) (hx w) (hy w)
    (λ j l. sym (flag-mask_has xs w j l) ∙ ap flag (same (64 * w + j) (omega arith)) ∙ flag-mask_has ys w j l))

-- ---- what a mask is

pub is_mask : (n : ℕ) (ws : List ℕ) → length ws ≡ mask_len n
    → ((i : ℕ) → n ≤ i → i < 64 * mask_len n → mask_has ws i ≡ false) → IsMask n ws
is_mask n ws count past =
    record {
      count = count;
      past = λ i h.
          elim (dec_le (64 * mask_len n) i) [
            | yes d ↦ mask_has-past ws i (omega arith)
            | no d ↦ past i h (omega arith)
          ];
    }

-- its words have all of its slots
pub mask-covers : {n : ℕ} {ws : List ℕ} → IsMask n ws → n ≤ 64 * length ws
mask-covers m = omega (arith, m.count)

-- a sum over all slots of its words, where those past n do not count
pub sum-slots : {n : ℕ} {ws : List ℕ} → IsMask n ws → (f : ℕ → ℕ) → ((i : ℕ) → n ≤ i → f i ≡ 0)
    → sum_from f 0 (64 * length ws) ≡ sum_from f 0 n
sum-slots {n} {ws} mask f past =
    let c : ℕ = 64 * length ws - n in
    let split = simp sub-zero at (sum_from-split f 0 n (64 * length ws) (omega arith) (mask-covers mask)) in
    let none : ℕ → ℕ = λ i. 0 in
    omega (
      arith,
      split,
      sum_from-cong f none n c (λ i h₁ h₂. past i h₁),
      sum_from-le none 0 (λ i. omega arith) n c,
    )

-- the bits past n do not count: the set bits of its words are the sum of the map that it makes
pub set_bits-sum : (n : ℕ) (ws : List ℕ) → IsMask n ws
    → sum_from (mask_value ws) 0 (64 * length ws) ≡ sum_from (mask_value ws) 0 n
set_bits-sum n ws mask = sum-slots mask (mask_value ws) (λ i h. ap flag (mask.past i h))

-- ---- a mask made of a property

module _ (n : ℕ) (p : ℕ → Bool) where
  -- its word w
  abbrev pub mask_word : ℕ → ℕ
  mask_word w = word p (64 * w) (min 64 (n - 64 * w))

  pub mask_word-lt : (w : ℕ) → mask_word w < 2 ^ 64
  mask_word-lt w =
      let m : 2 ^ min 64 (n - 64 * w) ≤ 2 ^ 64 = pow_mono {i = min 64 (n - 64 * w)} {j = 64} (omega arith) in
      omega (arith, word_lt p (64 * w) (min 64 (n - 64 * w)))

  -- a word that the slots fill, and one where they end
  pub mask_word-full : (w : ℕ) → 64 * w + 64 ≤ n → mask_word w ≡ word p (64 * w) 64
  mask_word-full w full = let e : min 64 (n - 64 * w) ≡ 64 = omega arith in ap (word p (64 * w)) e

  pub mask_word-last : (w : ℕ) → n ≤ 64 * w + 64 → mask_word w ≡ word p (64 * w) (n - 64 * w)
  mask_word-last w end = let e : min 64 (n - 64 * w) ≡ n - 64 * w = omega arith in ap (word p (64 * w)) e

  pub mask_of-table : mask_of n p ≡ table mask_word 0 (mask_len n)
  unfolding mask_of
  mask_of-table = refl

  pub length-mask_of : length (mask_of n p) ≡ mask_len n
  length-mask_of = ap length mask_of-table ∙ length-table mask_word 0 (mask_len n)

  pub get_or-mask_of : (w : ℕ) → w < mask_len n → get_or (mask_of n p) w 0 ≡ mask_word w
  get_or-mask_of w h =
      ap (λ (l : List ℕ). get_or l w 0) mask_of-table ∙ get_or-table mask_word 0 0 (mask_len n) w h ∙ ap mask_word (zero-add w)

  pub mask_of-words : Words (mask_of n p)
  mask_of-words w =
      elim (dec_le (mask_len n) w) [
        | yes d ↦ (let e : get_or (mask_of n p) w 0 ≡ 0 =
            get_or-eq_default (mask_of n p) 0 (omega (arith, length-mask_of)) in
            omega arith)
        | no d ↦ rw (get_or-mask_of w (omega arith)) (mask_word-lt w)
      ]

  pub mask_has-mask_of : (i : ℕ) → i < n → mask_has (mask_of n p) i ≡ p i
  mask_has-mask_of i h =
      let w : ℕ = i / 64 in
      let at : 64 * w + i % 64 ≡ i = omega arith in
      let bit : bit_at (mask_word w) (i % 64) ≡ flag (p i) =
      bit_at-word p (64 * w) (min 64 (n - 64 * w)) (i % 64) (omega arith) ∙ ap (λ (k : ℕ). flag (p k)) at in
      mask_has-at (mask_of n p) i (mask_word w) (flag (p i)) (get_or-mask_of w (omega arith)) bit ∙ eqb-flag (p i)

  pub mask_of-good : IsMask n (mask_of n p)
  mask_of-good =
      is_mask n (mask_of n p) length-mask_of
      (λ i h l.
      let w : ℕ = i / 64 in
      mask_has-at (mask_of n p) i (mask_word w) 0 (get_or-mask_of w (omega arith))
      (bit_at-word-past p (64 * w) (min 64 (n - 64 * w)) (i % 64) (omega arith)))

  pub mask_has-mask_of-past : (i : ℕ) → n ≤ i → mask_has (mask_of n p) i ≡ false
  mask_has-mask_of-past i h = mask_of-good.past i h

  pub mask_of-unique : (ws : List ℕ) → Words ws → IsMask n ws → ((i : ℕ) → i < n → mask_has ws i ≡ p i) → ws ≡ mask_of n p
  mask_of-unique ws words mask same =
      words-ext ws (mask_of n p) words mask_of-words (mask.count ∙ sym length-mask_of)
      (λ i h.
      elim (dec_le n i) [
        | yes d ↦ mask.past i d ∙ sym (mask_has-mask_of-past i d)
        | no d ↦ same i (omega arith) ∙ sym (mask_has-mask_of i (omega arith))
      ])

  pub set_bits-mask_of : set_bits n (mask_of n p) ≡ sum_from (λ (i : ℕ). flag (p i)) 0 n
  unfolding set_bits
  set_bits-mask_of = sum_from-cong _ _ 0 n (λ i h₁ h₂. ap flag (mask_has-mask_of i (omega arith)))

-- the words with these bits, and none past n
pub table-mask_of : (n : ℕ) (p : ℕ → Bool) (f : ℕ → ℕ) → ((w : ℕ) → f w < 2 ^ 64)
    → ((w j : ℕ) → j < 64 → 64 * w + j < n → bit_at (f w) j ≡ flag (p (64 * w + j)))
    → ((w j : ℕ) → j < 64 → n ≤ 64 * w + j → bit_at (f w) j ≡ 0)
    → table f 0 (mask_len n) ≡ mask_of n p
table-mask_of n p f small inside past =
    table-cong f (mask_word n p) 0 (mask_len n) (λ w h. word-is w) ∙ sym (mask_of-table n p)
  where
    word-is : (w : ℕ) → f w ≡ mask_word n p w
    word-is w =
        let c : ℕ = min 64 (n - 64 * w) in
        bits-inj 64 (f w) (mask_word n p w) (small w) (mask_word-lt n p w)
        (λ j l.
        elim (dec_le n (64 * w + j)) [
          | yes d ↦ past w j l d ∙ sym (bit_at-word-past p (64 * w) c j (omega arith))
          | no d ↦ inside w j l (omega arith) ∙ sym (bit_at-word p (64 * w) c j (omega arith))
        ])

pub mask_of-cong : (n : ℕ) (p q : ℕ → Bool) → ((i : ℕ) → i < n → p i ≡ q i) → mask_of n p ≡ mask_of n q
mask_of-cong n p q same =
    mask_of-unique n q (mask_of n p) (mask_of-words n p) (mask_of-good n p)
    (λ i h. mask_has-mask_of n p i h ∙ same i h)

-- ---- the least slot past n that is set

module _ (p : ℕ → Bool) where
  first_from-none : (c i : ℕ) → ((j : ℕ) → i ≤ j → j < i + c → p j ≡ false) → first_from p i c ≡ i + c
  unfolding first_from
  first_from-none zero i none = omega arith
  first_from-none (suc c) i none =
      rw (none i (omega arith) (omega arith))
      (first_from-none c (suc i) (λ j h l. none j (omega arith) (omega arith)) ∙ omega arith)

  first_from-clear : (c i j : ℕ) → i ≤ j → j < first_from p i c → p j ≡ false
  unfolding first_from
  first_from-clear zero i j h l = absurd (omega arith)
  first_from-clear (suc c) i j h l = go (p i) refl l (first_from-clear c (suc i) j)
    where
      go : (b : Bool) → p i ≡ b → j < cond b i (first_from p (suc i) c)
          → (suc i ≤ j → j < first_from p (suc i) c → p j ≡ false) → p j ≡ false
      go true e l rest = absurd (omega arith)
      go false e l rest =
          elim (dec_le j i) [
            | yes d ↦ (let same : j ≡ i = omega arith in ap p same ∙ e)
            | no d ↦ rest (omega arith) l
          ]

-- ---- the count of ones

pub ones-mask_has : (ws : List ℕ) → Words ws → (w : ℕ)
    → ones (get_or ws w 0) ≡ sum_from (λ (i : ℕ). flag (mask_has ws i)) (64 * w) 64
ones-mask_has ws words w =
    ones-bits 64 (get_or ws w 0) (words w)
    ∙ sum_from-cong (bit_at (get_or ws w 0)) (λ (j : ℕ). flag (mask_has ws (64 * w + j))) 0 64
    (λ j h l. sym (flag-mask_has ws w j (omega arith)))
    ∙ sum_from-shift (λ (j : ℕ). flag (mask_has ws (64 * w + j))) (λ (i : ℕ). flag (mask_has ws i)) 0 (64 * w) 64
    (λ j. rw (zero-add j))

-- ---- a mask and the test for it

pub or-false : (a b : Bool) → a || b ≡ false → (a ≡ false) × (b ≡ false)
or-false true b e = absurd (true-false e)
or-false false b e = (refl, e)

-- two tests of the same fact
same_test : (a b : Bool) → (a ≡ true → b ≡ true) → (b ≡ true → a ≡ true) → a ≡ b
same_test true b f g = sym (f refl)
same_test false true f g = g refl
same_test false false f g = refl

module _ (n : ℕ) (ws : List ℕ) where
  pub good-bad_mask : IsMask n ws → bad_mask n ws ≡ false
  unfolding bad_mask
  good-bad_mask mask =
      let all : ℕ = 64 * mask_len n in
      let none : first_from (mask_has ws) n (all - n) ≡ all =
      first_from-none (mask_has ws) (all - n) n (λ i h l. mask.past i h) ∙ omega arith in
      rw (eq-eqb (length ws) (mask_len n) mask.count, none) (le-ltb all all (omega arith))

  pub bad_mask-good : bad_mask n ws ≡ false → IsMask n ws
  unfolding bad_mask
  bad_mask-good good =
      let all : ℕ = 64 * mask_len n in
      let e = or-false (not (eqb (length ws) (mask_len n))) (ltb (first_from (mask_has ws) n (all - n)) all) good in
      let clear : all ≤ first_from (mask_has ws) n (all - n) = ltb-false _ _ e.1 in
      is_mask n ws (eqb-true _ _ (not-false _ e.0))
      (λ i h l. first_from-clear (mask_has ws) (all - n) n i h (omega arith))

  pub bad_mask-count : (length ws ≡ mask_len n → ⊥) → bad_mask n ws ≡ true
  unfolding bad_mask
  bad_mask-count other = rw (ne_eqb (length ws) (mask_len n) other)

  -- tell a mask by any other test
  test-mask : (t : Bool) → (IsMask n ws → t ≡ true) → (t ≡ true → IsMask n ws) → t ≡ not (bad_mask n ws)
  test-mask t f g =
      same_test t (not (bad_mask n ws)) (λ e. ap not (good-bad_mask (g e)))
      (λ e. f (bad_mask-good (not-true (bad_mask n ws) e)))

  -- where the slots fill the words, only the number of words counts
  pub bad_mask-whole : n % 64 ≡ 0 → eqb (length ws) (n / 64) ≡ not (bad_mask n ws)
  bad_mask-whole whole =
      test-mask (eqb (length ws) (n / 64)) (λ mask. eq-eqb (length ws) (n / 64) (mask.count ∙ omega arith))
      (λ e. is_mask n ws (eqb-true _ _ e ∙ omega arith) (λ i h l. absurd (omega arith)))

  -- else the last word must have no bit past n, too
  module _ (part : 0 < n % 64) (count : length ws ≡ n / 64 + 1) where
    past-bit : (j : ℕ) → n % 64 + j < 64 → flag (mask_has ws (n + j)) ≡ bit_at (get_or ws (n / 64) 0 / 2 ^ (n % 64)) j
    past-bit j h =
        let slot : n + j ≡ 64 * (n / 64) + (n % 64 + j) = omega arith in
        ap (λ (i : ℕ). flag (mask_has ws i)) slot ∙ flag-mask_has ws (n / 64) (n % 64 + j) h
        ∙ sym (bit_at-shr (get_or ws (n / 64) 0) (n % 64) j)

    pub bad_mask-last : Words ws → eqb (get_or ws (n / 64) 0 / 2 ^ (n % 64)) 0 ≡ not (bad_mask n ws)
    bad_mask-last words =
        let high : ℕ = get_or ws (n / 64) 0 / 2 ^ (n % 64) in
        let width : 64 - n % 64 + n % 64 ≡ 64 = omega arith in
        let small : high < 2 ^ (64 - n % 64) = shr_lt (64 - n % 64) (n % 64) (rw width (words (n / 64))) in
        test-mask (eqb high 0)
        (λ mask.
        eq-eqb high 0
        (bits_none (64 - n % 64) high small
        (λ j h. sym (past-bit j (omega arith)) ∙ ap flag (mask.past (n + j) (omega arith)))))
        (λ e.
        is_mask n ws (count ∙ omega arith)
        (λ i h l.
        let slot : i ≡ n + (i - n) = omega arith in
        flag-zero (mask_has ws i)
        (ap (λ (k : ℕ). flag (mask_has ws k)) slot ∙ past-bit (i - n) (omega arith)
        ∙ ap (λ (x : ℕ). bit_at x (i - n)) (eqb-true high 0 e) ∙ bit_at-none (i - n))))
