-- Laws of words whose bits tell which numbers of a range have p.
--   tell-full                 which primary bytes are 255, told by the mask of those that are not below 255
--   NextBit, word_next        the lowest set bit, the positions that it and the bits above it tell, and these bits
--   word_none                 no bit is set
-- Axioms: none.
use mathlib.Core.Path.{◌≡◌, refl, sym, ap, ◌∙◌}
use Prim.Native.Nat.{ℕ, zero, suc, ◌+◌, ◌-◌, ◌*◌, ◌/◌, ◌%◌, ◌^◌, ◌≤◌, ◌<◌, min}
use native.Mathlib.Nat.{zero-add, pow-suc, div-one, div-div-eq-div-mul, mul_comm}
use native.Mathlib.Omega.{arith}
use native.Mathlib.Decide.{dec_le}
use mathlib.Core.Bool.{Bool, true, false, not}
use mathlib.Core.List.{List, [], ◌∷◌}
use lib.ListN.{length, get_or, take, drop, length-drop}
use lib.Seq.{sets, length-take-le, get_or-take, get_or-drop}
use lib.Count.{count_trailing_zeros}
use lib.Dec.{ltb, eqb}
use borrow.Author.Tests.{lt-ltb, le-ltb, eq-eqb, ne_eqb}
use Rattle.pciv_bytes.specs.Ranges.{flag, positions, keep_if}
use Rattle.pciv_bytes.specs.LittleEndian.{Bytes}
use Rattle.pciv_bytes.specs.ByteAt.{byte_at}
use Rattle.pciv_bytes.proofs.WriteLaws.{get_or-sets}
use Rattle.pciv_format.specs.Mask.{word, mask_of}
use Rattle.pciv_format.proofs.BitLaws.{word_lt, bit_at-word, word-unique}
use Rattle.pciv_format.proofs.MaskLaws.{length-mask_of, get_or-mask_of}
use Rattle.pciv_bits.specs.Flags.{passes_at}
use Rattle.pciv_build.specs.Slots.{is_full, TellFull}

-- ---- the word of the slots with primary byte 255

-- the same flags, from k on
word_moved : (p q : ℕ → Bool) (i k c : ℕ) → ((j : ℕ) → j < c → p (i + j) ≡ q (k + j)) → word p i c ≡ word q k c
word_moved p q i k c same =
    word-unique q k c (word p i c) (word_lt p i c) (λ j h. bit_at-word p i c j h ∙ ap flag (same j h))

not-below : (x : ℕ) → x < 256 → not (ltb x 255) ≡ eqb x 255
not-below x h =
    elim (dec_le 255 x) [
      | yes d ↦ rw (le-ltb x 255 d) (sym (eq-eqb x 255 (omega arith)))
      | no d ↦ rw (lt-ltb x 255 (omega arith)) (sym (ne_eqb x 255 (λ e. omega arith)))
    ]

-- the mask of the primary bytes of slots i up to `to`, in the front of ws
module _ (d ws : List ℕ) (i to : ℕ) (bytes : Bytes d) (h : i ≤ to) (fits : 40 + to ≤ length d)
    (space : to ≤ i + 64 * length ws) where
  abbrev part : List ℕ
  part = take (40 + to - (40 + i)) (drop (40 + i) d)

  length_part : length part ≡ to - i
  length_part =
      let e : 40 + to - (40 + i) ≡ to - i = omega arith in
      rw e (length-take-le (to - i) (drop (40 + i) d) (rw (length-drop (40 + i) d) (omega arith)))

  part-full : (j : ℕ) → j < to - i → passes_at part 255 true j ≡ is_full d (i + j)
  part-full j inside =
      let there : 40 + i + j ≡ 40 + (i + j) = omega arith in
      let e : byte_at part j ≡ byte_at d (40 + (i + j)) =
      get_or-take (40 + to - (40 + i)) (drop (40 + i) d) j 0 (omega arith) ∙ get_or-drop (40 + i) d j 0
      ∙ ap (byte_at d) there in
      rw e (not-below (byte_at d (40 + (i + j))) (bytes (40 + (i + j))))

  pub tell-full : TellFull (sets ws 0 (mask_of (length part) (passes_at part 255 true))) d i to
  tell-full w inside =
      let p : ℕ → Bool = passes_at part 255 true in
      let n : ℕ = length part in
      let long = length-mask_of n p in
      let e : min 64 (n - 64 * w) ≡ min 64 (to - (i + 64 * w)) = omega (arith, length_part) in
      ap (λ (k : ℕ). get_or (sets ws 0 (mask_of n p)) k 0) (sym (zero-add w))
      ∙ get_or-sets (mask_of n p) ws 0 0 w (omega (arith, long, length_part)) (omega (arith, long, length_part))
      ∙ get_or-mask_of n p w (omega (arith, length_part))
      ∙ ap (word p (64 * w)) e
      ∙ word_moved p (is_full d) (64 * w) (i + 64 * w) (min 64 (to - (i + 64 * w)))
      (λ j l. let there : i + (64 * w + j) ≡ i + 64 * w + j = omega arith in part-full (64 * w + j) (omega arith)
      ∙ ap (is_full d) there)

-- ---- the lowest set bit

-- bit t of a word w of c bits from i on
pub record NextBit (p : ℕ → Bool) (i c : ℕ) (slots : List ℕ) (w t : ℕ) : Type 0 where
  pub inside : t < c
  pub slots-are : slots ≡ (i + t) ∷ positions p (i + t + 1) (c - (t + 1))
  pub rest : w / 2 ^ t / 2 ≡ word p (i + t + 1) (c - (t + 1))

bit-set : (p : ℕ → Bool) (i c : ℕ) → NextBit p i (suc c) (i ∷ positions p (suc i) c) (1 + 2 * word p (suc i) c) 0
bit-set p i c =
    let here : i + 0 ≡ i = omega arith in
    let next : i + 1 ≡ suc i = omega arith in
    let left : suc c - (0 + 1) ≡ c = omega arith in
    record {
      inside = omega arith;
      slots-are = rw (here, next, left);
      rest = rw (here, next, left, div-one (1 + 2 * word p (suc i) c)) (omega arith);
    }

bit-clear : (p : ℕ → Bool) (i c : ℕ) (slots : List ℕ) (w t : ℕ) → NextBit p (suc i) c slots w t
    → NextBit p i (suc c) slots (2 * w) (suc t)
bit-clear p i c slots w t b =
    let here : i + suc t ≡ suc i + t = omega arith in
    let left : suc c - (suc t + 1) ≡ c - (t + 1) = omega arith in
    let half : 2 * w / 2 ≡ w = omega arith in
    let shifted : 2 * w / 2 ^ suc t ≡ w / 2 ^ t =
    ap (λ (x : ℕ). 2 * w / x) (pow-suc 2 t ∙ mul_comm (2 ^ t) 2)
    ∙ sym (div-div-eq-div-mul (2 * w) 2 (2 ^ t))
    ∙ ap (λ (x : ℕ). x / 2 ^ t) half in
    record {
      inside = omega (arith, b.inside);
      slots-are = rw (here, left) b.slots-are;
      rest = rw (here, left, shifted) b.rest;
    }

zeros-odd : (k w : ℕ) → count_trailing_zeros (suc k) (1 + 2 * w) ≡ 0
unfolding count_trailing_zeros
zeros-odd k w = let e : (1 + 2 * w) % 2 ≡ 1 = omega arith in rw e

zeros-even : (k w : ℕ) → count_trailing_zeros (suc k) (2 * w) ≡ suc (count_trailing_zeros k w)
unfolding count_trailing_zeros
zeros-even k w =
    let e : 2 * w % 2 ≡ 0 = omega arith in
    let half : 2 * w / 2 ≡ w = omega arith in
    rw (e, half)

bit-next : (p : ℕ → Bool) (k i c : ℕ) (b : Bool) → 0 < flag b + 2 * word p (suc i) c
    → (0 < word p (suc i) c
    → NextBit p (suc i) c (positions p (suc i) c) (word p (suc i) c) (count_trailing_zeros k (word p (suc i) c)))
    → NextBit p i (suc c) (keep_if b i (positions p (suc i) c)) (flag b + 2 * word p (suc i) c)
    (count_trailing_zeros (suc k) (flag b + 2 * word p (suc i) c))
bit-next p k i c true some next = rw (zeros-odd k (word p (suc i) c)) (bit-set p i c)
bit-next p k i c false some next =
    rw (zero-add (2 * word p (suc i) c), zeros-even k (word p (suc i) c))
    (bit-clear p i c (positions p (suc i) c) (word p (suc i) c) (count_trailing_zeros k (word p (suc i) c))
    (next (omega arith)))

lowest-bit : (p : ℕ → Bool) (k i c : ℕ) → c ≤ k → 0 < word p i c
    → NextBit p i c (positions p i c) (word p i c) (count_trailing_zeros k (word p i c))
unfolding word positions
lowest-bit p k i zero h some = absurd (omega arith)
lowest-bit p zero i (suc c) h some = absurd (omega arith)
lowest-bit p (suc k) i (suc c) h some = bit-next p k i c (p i) some (λ q. lowest-bit p k (suc i) c (omega arith) q)

pub word_next : (p : ℕ → Bool) (k i c w : ℕ) → w ≡ word p i c → c ≤ k → 0 < w
    → NextBit p i c (positions p i c) w (count_trailing_zeros k w)
word_next p k i c w is h some = rw is (lowest-bit p k i c h (omega arith))

-- no bit is set

none-next : (b : Bool) (i w : ℕ) (l : List ℕ) → flag b + 2 * w ≡ 0 → (w ≡ 0 → l ≡ []) → keep_if b i l ≡ []
none-next true i w l e rest = absurd (omega arith)
none-next false i w l e rest = rest (omega arith)

pub word_none : (p : ℕ → Bool) (i c : ℕ) → word p i c ≡ 0 → positions p i c ≡ []
unfolding word positions
word_none p i zero e = refl
word_none p i (suc c) e = none-next (p i) i (word p (suc i) c) (positions p (suc i) c) e (word_none p (suc i) c)
