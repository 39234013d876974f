-- Laws of gathering 64 flags in sixteen lanes.
--   bit_at-get          the bits of a little-endian number are those of its bytes;  spread-lt  a lane is a byte
--   Lanes p i f at j   the j bytes of f from `at` on are lanes of flags p;  lanes-kept, -more  one byte of f changed
--   lanes-gathered     sixteen lanes, the last eight one bit up, are the 64 flags
--   gathered-word      transposed, they are the word of the flags
-- Axioms: none.
use Rattle.std.proofs.Common.{◌≡◌, ℕ, zero, suc, ◌+◌, ◌-◌, ◌*◌, ◌/◌, ◌%◌, ◌^◌, ◌<◌, ◌≤◌, Bool, ◌&&◌, eqb, List, length, get_or, set, sym, refl, ap, ◌∙◌, add-zero, zero-add, arith, get_or-set_other, get_or-set_same}
use native.Mathlib.Decide.{dec_le}
use lib.Bits.{bit_or}
use Rattle.pciv_bytes.specs.Ranges.{flag}
use Rattle.pciv_bytes.specs.LittleEndian.{get}
use Rattle.pciv_bytes.specs.ByteAt.{byte_at}
use Rattle.pciv_bytes.proofs.RangesLaws.{flag-le}
use Rattle.pciv_bytes.proofs.LittleEndianLaws.{get-suc}
use Rattle.pciv_format.specs.Mask.{bit_at, word}
use Rattle.pciv_format.proofs.BitLaws.{bit_at-lowest, bit_at-shr, bit_at-shl, bit_at-mod, bit_at-or, bit_at-word, word-unique}
use Rattle.pciv_bits.specs.Flags.{spread, transposed, Gathered}

-- ---- the bits of a little-endian number

-- of bytes from lo up to hi
module _ (b : List ℕ) (lo hi : ℕ) (bytes : (k : ℕ) → lo ≤ k → k < hi → get_or b k 0 < 256)
    (inside : hi ≤ length b) where
  pub bit_at-get : (w at k j : ℕ) → lo ≤ at → at + w ≤ hi → k < w → j < 8
      → bit_at (get w b at) (8 * k + j) ≡ bit_at (byte_at b (at + k)) j
  bit_at-get zero at k j low space h l = absurd (omega arith)
  bit_at-get (suc w) at zero j low space h l =
      let e : 8 * 0 + j ≡ j = omega arith in
      let all : ℕ = get_or b at 0 + 256 * get w b (suc at) in
      let byte : all % 2 ^ 8 ≡ get_or b at 0 = omega (arith, bytes at low (omega arith)) in
      rw (e, add-zero at, get-suc w b at (omega arith)) (sym (bit_at-mod all 8 j l) ∙ rw byte)
  bit_at-get (suc w) at (suc k) j low space h l =
      let e : 8 * suc k + j ≡ 8 + (8 * k + j) = omega arith in
      let f : at + suc k ≡ suc at + k = omega arith in
      let all : ℕ = get_or b at 0 + 256 * get w b (suc at) in
      let rest : all / 2 ^ 8 ≡ get w b (suc at) = omega (arith, bytes at low (omega arith)) in
      rw (e, f, get-suc w b at (omega arith))
      (sym (bit_at-shr all 8 (8 * k + j))
      ∙ rw rest (bit_at-get w (suc at) k j (omega arith) (omega arith) (omega arith) l))

-- ---- places

-- past an even place, the next column of the same row
transposed-next : (j : ℕ) → suc j % 2 ≡ 1 → 8 + transposed j ≡ transposed (suc j)
transposed-next j odd =
    let half : j ≡ 2 * (j / 2) = omega arith in
    let row : j / 8 ≡ j / 2 / 4 = omega arith in
    let same : suc j / 8 ≡ j / 2 / 4 = omega arith in
    omega arith

-- ---- one lane

-- bit b of the lane of i: a flag at every other place
abbrev lane_flag : (ℕ → Bool) → ℕ → ℕ → Bool
lane_flag p i b = eqb (b % 2) 0 && p (i + 8 * b)

spread-word : (p : ℕ → Bool) (i : ℕ) → spread p i ≡ word (lane_flag p i) 0 8
unfolding word
spread-word p i =
    let e : flag (p (i + 8 * 0)) ≡ flag (p i) = ap flag (ap p (let z : i + 8 * 0 ≡ i = omega arith in z)) in
    omega arith

pub spread-lt : (p : ℕ → Bool) (i : ℕ) → spread p i < 256
spread-lt p i =
    omega (arith, flag-le (p i), flag-le (p (i + 16)), flag-le (p (i + 32)), flag-le (p (i + 48)))

spread-bit : (p : ℕ → Bool) (i b : ℕ) → b < 8 → bit_at (spread p i) b ≡ flag (lane_flag p i b)
spread-bit p i b h =
    ap (λ (x : ℕ). bit_at x b) (spread-word p i)
    ∙ bit_at-word (lane_flag p i) 0 8 b h
    ∙ ap (λ (z : ℕ). flag (lane_flag p i z)) (zero-add b)

-- ---- the lanes

abbrev pub Lanes : (ℕ → Bool) → ℕ → List ℕ → ℕ → ℕ → Type 0
Lanes p i f at j = (k : ℕ) → k < j → byte_at f (at + k) ≡ spread p (i + k)

module _ (p : ℕ → Bool) (i : ℕ) (f : List ℕ) (at : ℕ) where
  -- a byte changed beside them
  pub lanes-kept : (j q v : ℕ) → Lanes p i f at j → ((k : ℕ) → k < j → at + k ≡ q → ⊥) → Lanes p i (set f q v) at j
  lanes-kept j q v so beside k h = get_or-set_other f q (at + k) v 0 (beside k h) ∙ so k h

  pub lanes-more : (j q v : ℕ) → Lanes p i f at j → q ≡ at + j → q < length f → v ≡ spread p (i + j)
      → Lanes p i (set f q v) at (j + 1)
  lanes-more j q v so place inside e k h =
      elim (dec_le j k) [
        | yes d ↦ (let z : k ≡ j = omega arith in
            let y : at + k ≡ q = omega arith in
            ap (byte_at (set f q v)) y ∙ get_or-set_same f q v 0 inside ∙ e ∙ ap (λ (t : ℕ). spread p (i + t)) (sym z))
        | no d ↦ get_or-set_other f q (at + k) v 0 (λ z. omega arith) ∙ so k (omega arith)
      ]

  module _ (all : Lanes p i f at 16) (long : at + 16 ≤ length f) where
    bytes : (k : ℕ) → at ≤ k → k < at + 16 → get_or f k 0 < 256
    bytes k low high =
        let e : k ≡ at + (k - at) = omega arith in
        rw e (rw (all (k - at) (omega arith)) (spread-lt p (i + (k - at))))

    -- eight lanes from lane q on
    half-bit : (from q j : ℕ) → from ≡ at + q → q ≤ 8 → j < 64
        → bit_at (get 8 f from) j ≡ flag (eqb (j % 2) 0 && p (i + q + transposed j))
    half-bit from q j start low h =
        let place : j ≡ 8 * (j / 8) + j % 8 = omega arith in
        let odd : j % 8 % 2 ≡ j % 2 = omega arith in
        let byte : from + j / 8 ≡ at + (q + j / 8) = omega arith in
        let slot : i + (q + j / 8) + 8 * (j % 8) ≡ i + q + transposed j = omega arith in
        ap (bit_at (get 8 f from)) place
        ∙ bit_at-get f at (at + 16) bytes long 8 from (j / 8) (j % 8) (omega arith) (omega arith) (omega arith)
        (omega arith)
        ∙ ap (λ (x : ℕ). bit_at x (j % 8)) (ap (byte_at f) byte ∙ all (q + j / 8) (omega arith))
        ∙ spread-bit p (i + (q + j / 8)) (j % 8) (omega arith)
        ∙ rw (odd, slot)

    half-even : (from q j : ℕ) → from ≡ at + q → q ≤ 8 → j < 64 → j % 2 ≡ 0
        → bit_at (get 8 f from) j ≡ flag (p (i + q + transposed j))
    half-even from q j start low h even = half-bit from q j start low h ∙ rw even

    half-odd : (from q j : ℕ) → from ≡ at + q → q ≤ 8 → j < 64 → j % 2 ≡ 1 → bit_at (get 8 f from) j ≡ 0
    half-odd from q j start low h odd = half-bit from q j start low h ∙ rw odd

    -- the last eight lanes, one bit up
    abbrev up : ℕ
    up = get 8 f (at + 8) * 2 ^ 1

    up-even : (j : ℕ) → j < 64 → j % 2 ≡ 0 → bit_at (up % 2 ^ 64) j ≡ 0
    up-even zero h even = bit_at-mod up 64 0 h ∙ bit_at-lowest up ∙ omega arith
    up-even (suc j) h even =
        let e : suc j ≡ 1 + j = omega arith in
        bit_at-mod up 64 (suc j) h
        ∙ ap (bit_at up) e
        ∙ bit_at-shl (get 8 f (at + 8)) 1 j
        ∙ half-odd (at + 8) 8 j refl (omega arith) (omega arith) (omega arith)

    up-odd : (j : ℕ) → j < 64 → j % 2 ≡ 1 → bit_at (up % 2 ^ 64) j ≡ flag (p (i + transposed j))
    up-odd zero h odd = absurd (omega arith)
    up-odd (suc j) h odd =
        let e : suc j ≡ 1 + j = omega arith in
        let slot : i + 8 + transposed j ≡ i + transposed (suc j) = omega (arith, transposed-next j odd) in
        bit_at-mod up 64 (suc j) h
        ∙ ap (bit_at up) e
        ∙ bit_at-shl (get 8 f (at + 8)) 1 j
        ∙ half-even (at + 8) 8 j refl (omega arith) (omega arith) (omega arith)
        ∙ ap (λ (z : ℕ). flag (p z)) slot

    pub lanes-gathered : Gathered p i (bit_or (get 8 f at) (get 8 f (at + 8) * 2 ^ 1 % 2 ^ 64))
    lanes-gathered j h =
        bit_at-or (get 8 f at) (up % 2 ^ 64) j
        ∙ elim (dec_le 1 (j % 2)) [
          | yes d ↦ (let odd : j % 2 ≡ 1 = omega arith in
              omega (arith, half-odd at 0 j (omega arith) (omega arith) h odd, up-odd j h odd))
          | no d ↦ (let even : j % 2 ≡ 0 = omega arith in
              let slot : flag (p (i + 0 + transposed j)) ≡ flag (p (i + transposed j)) =
              ap flag (ap p (let z : i + 0 + transposed j ≡ i + transposed j = omega arith in z)) in
              omega (arith, half-even at 0 j (omega arith) (omega arith) h even, up-even j h even))
        ]

-- ---- in order

pub gathered-word : (p : ℕ → Bool) (i x r : ℕ) → Gathered p i x → r < 2 ^ 64
    → ((j : ℕ) → j < 64 → bit_at r j ≡ bit_at x (transposed j)) → r ≡ word p i 64
gathered-word p i x r so small moved =
    word-unique p i 64 r small
    (λ j h.
    (let slot : i + transposed (transposed j) ≡ i + j = omega arith in
    moved j h ∙ so (transposed j) (omega arith) ∙ ap (λ (z : ℕ). flag (p z)) slot))
