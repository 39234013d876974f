-- Laws of moving the bits of a word of 64 bits in rounds. A round keeps the bits of one mask, moves those of a second
-- down by k places and those of a third up by k. What a round does to a bit is one law; that the three rounds of
-- `transpose` together exchange rows and columns is a test, computed at each of the 64 places.
--   Round            how far bits move, and the masks of those that stay, move down and move up
--   moved r x        x after a round;  source r j  where its bit j comes from
--   misplaced r j    bit j does not come from exactly one place of the word
--   transpose-bit    where bit j comes from after the three rounds
-- Axioms: none.
use Rattle.std.proofs.Common.{◌≡◌, ℕ, ◌+◌, ◌-◌, ◌*◌, ◌/◌, ◌%◌, ◌^◌, ◌<◌, ◌≤◌, min, max, Bool, not, ◌||◌, eqb, ltb, leb, refl, ap, ◌∙◌, arith, lit≤, ltb-false, leb-false}
use native.Mathlib.Decide.{dec_le}
use lib.Bits.{bit_and, bit_or}
use Rattle.pciv_bytes.specs.Ranges.{first_from, first_below}
use Rattle.pciv_bytes.proofs.RangesLaws.{first_below-all}
use Rattle.pciv_format.specs.Mask.{bit_at}
use Rattle.pciv_format.proofs.PartsLaws.{or-false, not_eqb}
use Rattle.pciv_format.proofs.BitLaws.{bit_at-le, bit_at-and, bit_at-or, bit_at-shr, bit_at-shl, bit_at-mod}
use Rattle.pciv_bits.specs.Flags.{transposed}

-- ---- one round

record Round : Type 0 where
  k : ℕ
  kept : ℕ
  down : ℕ
  up : ℕ

abbrev moved : Round → ℕ → ℕ
moved r x =
    bit_or (bit_or (bit_and x r.kept) (bit_and (x / 2 ^ r.k) r.down)) (bit_and (x * 2 ^ r.k % 2 ^ 64) r.up)

unfoldable source : Round → ℕ → ℕ
source r j = bit_at r.kept j * j + bit_at r.down j * (r.k + j) + bit_at r.up j * (j - r.k)

unfoldable misplaced : Round → ℕ → Bool
misplaced r j =
    not (eqb (bit_at r.kept j + bit_at r.down j + bit_at r.up j) 1)
    || ltb j (bit_at r.up j * r.k)
    || leb 64 (source r j)

-- one of three bits, by which of b₀, b₁ and b₂ is 1
chosen : (f : ℕ → ℕ) (b₀ b₁ b₂ u v w i j l : ℕ) → b₀ + b₁ + b₂ ≡ 1 → u ≤ 1 → v ≤ 1 → w ≤ 1
    → u ≡ f i → v ≡ f j → (b₂ ≡ 1 → w ≡ f l)
    → max (max (min u b₀) (min v b₁)) (min w b₂) ≡ f (b₀ * i + b₁ * j + b₂ * l)
chosen f b₀ b₁ b₂ u v w i j l one hu hv hw eu ev ew =
    elim (dec_le 1 b₀) [
      | yes d ↦ (let e₀ : b₀ ≡ 1 = omega arith in
          let e₁ : b₁ ≡ 0 = omega arith in
          let e₂ : b₂ ≡ 0 = omega arith in
          let bit : max (max (min u b₀) (min v b₁)) (min w b₂) ≡ f i = omega arith in
          bit ∙ ap f (let at : i ≡ b₀ * i + b₁ * j + b₂ * l = rw (e₀, e₁, e₂) (omega arith) in at))
      | no d ↦ elim (dec_le 1 b₁) [
        | yes d' ↦ (let e₀ : b₀ ≡ 0 = omega arith in
            let e₁ : b₁ ≡ 1 = omega arith in
            let e₂ : b₂ ≡ 0 = omega arith in
            let bit : max (max (min u b₀) (min v b₁)) (min w b₂) ≡ f j = omega arith in
            bit ∙ ap f (let at : j ≡ b₀ * i + b₁ * j + b₂ * l = rw (e₀, e₁, e₂) (omega arith) in at))
        | no d' ↦ (let e₀ : b₀ ≡ 0 = omega arith in
            let e₁ : b₁ ≡ 0 = omega arith in
            let e₂ : b₂ ≡ 1 = omega arith in
            let bit : max (max (min u b₀) (min v b₁)) (min w b₂) ≡ f l = omega (arith, ew e₂) in
            bit ∙ ap f (let at : l ≡ b₀ * i + b₁ * j + b₂ * l = rw (e₀, e₁, e₂) (omega arith) in at))
      ]
    ]

module _ (r : Round) (all : 64 ≤ first_below (misplaced r) 64) (j : ℕ) (h : j < 64) where
  -- what the test says of bit j
  record Placed : Type 0 where
    one : bit_at r.kept j + bit_at r.down j + bit_at r.up j ≡ 1
    low : bit_at r.up j * r.k ≤ j
    inside : source r j < 64

  placed : Placed
  unfolding misplaced
  placed =
      let one : Bool = not (eqb (bit_at r.kept j + bit_at r.down j + bit_at r.up j) 1) in
      let low : Bool = ltb j (bit_at r.up j * r.k) in
      let e = or-false (one || low) (leb 64 (source r j)) (first_below-all (misplaced r) 64 j all h) in
      let f = or-false one low e.0 in
      record {
        one = not_eqb (bit_at r.kept j + bit_at r.down j + bit_at r.up j) 1 f.0;
        low = ltb-false j (bit_at r.up j * r.k) f.1;
        inside = leb-false 64 (source r j) e.1;
      }

  -- a bit that moves up
  moved_up : (x : ℕ) → bit_at r.up j ≡ 1 → bit_at (x * 2 ^ r.k % 2 ^ 64) j ≡ bit_at x (j - r.k)
  moved_up x has =
      let low : r.k ≤ j = omega (arith, rw has at placed.low) in
      let e : j ≡ r.k + (j - r.k) = omega arith in
      bit_at-mod (x * 2 ^ r.k) 64 j h ∙ ap (bit_at (x * 2 ^ r.k)) e ∙ bit_at-shl x r.k (j - r.k)

  moved-bit : (x : ℕ) → bit_at (moved r x) j ≡ bit_at x (source r j)
  unfolding source
  moved-bit x =
      let kept : ℕ = bit_and x r.kept in
      let down : ℕ = bit_and (x / 2 ^ r.k) r.down in
      let up : ℕ = bit_and (x * 2 ^ r.k % 2 ^ 64) r.up in
      bit_at-or (bit_or kept down) up j
      ∙ rw (
        bit_at-or kept down j,
        bit_at-and x r.kept j,
        bit_at-and (x / 2 ^ r.k) r.down j,
        bit_at-and (x * 2 ^ r.k % 2 ^ 64) r.up j,
      )
      (chosen (bit_at x) (bit_at r.kept j) (bit_at r.down j) (bit_at r.up j)
      (bit_at x j) (bit_at (x / 2 ^ r.k) j) (bit_at (x * 2 ^ r.k % 2 ^ 64) j) j (r.k + j) (j - r.k) placed.one
      (bit_at-le x j) (bit_at-le (x / 2 ^ r.k) j) (bit_at-le (x * 2 ^ r.k % 2 ^ 64) j) refl (bit_at-shr x r.k j)
      (moved_up x))

-- ---- the three rounds: squares of one, two and four bits

abbrev ones : Round
ones = record { k = 7; kept = 0xAA55AA55AA55AA55; down = 0x00AA00AA00AA00AA; up = 0x5500550055005500 }

abbrev twos : Round
twos = record { k = 14; kept = 0xCCCC3333CCCC3333; down = 0x0000CCCC0000CCCC; up = 0x3333000033330000 }

abbrev fours : Round
fours = record { k = 28; kept = 0xF0F0F0F00F0F0F0F; down = 0x00000000F0F0F0F0; up = 0x0F0F0F0F00000000 }

-- the three sources, one after another, are not the transposed place
unfoldable astray : ℕ → Bool
astray j = not (eqb (source ones (source twos (source fours j))) (transposed j))

-- the tests, computed
record Tested : Type 0 where
  ones-placed : 64 ≤ first_below (misplaced ones) 64
  twos-placed : 64 ≤ first_below (misplaced twos) 64
  fours-placed : 64 ≤ first_below (misplaced fours) 64
  none-astray : 64 ≤ first_below astray 64

tested : Tested
unfolding first_below first_from misplaced astray source bit_at
tested = record { ones-placed = lit≤ tt; twos-placed = lit≤ tt; fours-placed = lit≤ tt; none-astray = lit≤ tt }

pub transpose-bit : (x j : ℕ) → j < 64 → bit_at (moved fours (moved twos (moved ones x))) j ≡ bit_at x (transposed j)
unfolding astray
transpose-bit x j h =
    let h₂ = (placed fours tested.fours-placed j h).inside in
    let h₁ = (placed twos tested.twos-placed (source fours j) h₂).inside in
    moved-bit fours tested.fours-placed j h (moved twos (moved ones x))
    ∙ moved-bit twos tested.twos-placed (source fours j) h₂ (moved ones x)
    ∙ moved-bit ones tested.ones-placed (source twos (source fours j)) h₁ x
    ∙ ap (bit_at x)
    (not_eqb (source ones (source twos (source fours j))) (transposed j)
    (first_below-all astray 64 j tested.none-astray h))
