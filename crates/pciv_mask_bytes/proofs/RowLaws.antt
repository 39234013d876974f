-- Laws of a mask as bytes: eight bits at once through the table, 64 bits of a word, and the map of 0 and 1.
--   bit_rows-at, bits_row-table    a row of the table, byte by byte
--   row-of-word          a row is eight bits of a word;  word-bit, word-slots  a word as 64 bytes, and as 64 slots
--   no_bytes, last_bit, last-bits    the word after the last whole one as 64 bytes, and its slots
--   primary-bits         bits are primary bytes
--   count_none, part_none, index-none    a map below 255 has no overflow entry, and its file no index
-- Axioms: none.
use mathlib.Core.Path.{◌≡◌, refl, sym, ap, ap₂, ◌∙◌}
use Prim.Native.Nat.{ℕ, ◌+◌, ◌*◌, ◌/◌, ◌%◌, ◌^◌, ◌≤◌, ◌<◌}
use native.Mathlib.Nat.{zero-add}
use native.Mathlib.Omega.{arith}
use mathlib.Core.List.{List, []}
use lib.ListN.{length, get_or, take, replicate, get_or-eq_default}
use lib.Seq.{sets}
use Rattle.pciv_bytes.specs.Ranges.{table, joined}
use Rattle.pciv_bytes.specs.ByteAt.{byte_at}
use Rattle.pciv_bytes.proofs.RangesLaws.{length-table, get_or-table, table-cong, table-shift, flag-le}
use Rattle.pciv_bytes.proofs.WriteLaws.{sets-at}
use Rattle.pciv_format.specs.Layout.{primary_byte, primary, overflow_count, overflow_slots, overflow_part}
use Rattle.pciv_format.specs.Mask.{bit_at, bits_row, mask_has, mask_value}
use Rattle.pciv_format.proofs.PartsLaws.{primary_byte-inline}
use Rattle.pciv_format.proofs.LayoutLaws.{index_step-few, index_len-zero}
use Rattle.pciv_build.specs.Build.{index_from}
use Rattle.pciv_build.proofs.EntriesLaws.{slots_from-start, slots_from-gap, slots_from-end}
use Rattle.pciv_format.proofs.BitLaws.{bit_at-shr, bit_at-mod, bit_at-none}
use Rattle.pciv_format.proofs.MaskLaws.{flag-mask_has, word-of-mask}
use Rattle.pciv_mask_bytes.specs.Rows.{bit_rows}
use Rattle.pciv_mask_bytes.proofs.SlotLaws.{part-table}

-- ---- rows

pub bit_rows-at : (b j : ℕ) → b < 256 → j < 8 → get_or bit_rows (8 * b + j) 0 ≡ bit_at b j
unfolding bit_rows
bit_rows-at b j hb hj =
    let e : (8 * b + j) / 8 ≡ b = omega arith in
    let g : (8 * b + j) % 8 ≡ j = omega arith in
    get_or-table (λ (i : ℕ). bit_at (i / 8) (i % 8)) 0 0 2048 (8 * b + j) (omega arith)
    ∙ rw (zero-add (8 * b + j), e, g)

pub bits_row-table : (b : ℕ) → bits_row b ≡ table (bit_at b) 0 8
unfolding bits_row
bits_row-table b = refl

-- ---- a word as bytes

-- eight bits of a word, from bit j on
pub row-of-word : (x j : ℕ) → bits_row (x / 2 ^ j % 256) ≡ table (bit_at x) j 8
row-of-word x j =
    let b : ℕ = x / 2 ^ j % 256 in
    bits_row-table b
    ∙ table-shift (bit_at b) (bit_at x) 0 j 8
    (λ t h. ap (bit_at b) (zero-add t) ∙ bit_at-mod (x / 2 ^ j) 8 t h ∙ bit_at-shr x j t)

-- the bits of a word as they stand in 64 bytes
pub word-bit : (d b : List ℕ) (x j : ℕ) → 64 ≤ length d → b ≡ sets d 0 (table (bit_at x) 0 64) → j < 64
    → byte_at b j ≡ bit_at x j
word-bit d b x j space is h =
    let l : length (table (bit_at x) 0 64) ≡ 64 = length-table (bit_at x) 0 64 in
    ap₂ byte_at is (sym (zero-add j))
    ∙ sets-at d (table (bit_at x) 0 64) 0 j 0 (omega arith) (omega arith)
    ∙ get_or-table (bit_at x) 0 0 64 j h
    ∙ ap (bit_at x) (zero-add j)

-- its bits are those of 64 slots
pub word-slots : (ws : List ℕ) (w : ℕ) → table (bit_at (get_or ws w 0)) 0 64 ≡ table (mask_value ws) (64 * w) 64
word-slots ws w =
    let e : 64 * w / 64 ≡ w = omega arith in
    rw e at (word-of-mask ws (64 * w) (omega arith))

-- ---- the slots after the last whole word

-- where there is no word
pub no_bytes : (ws : List ℕ) (w : ℕ) → length ws ≤ w → replicate 64 0 ≡ table (bit_at (get_or ws w 0)) 0 64
unfolding table
no_bytes ws w past =
    rw (get_or-eq_default ws 0 past)
    (table-cong (λ (j : ℕ). 0) (bit_at 0) 0 64 (λ j h. sym (bit_at-none j)))

pub last_bit : (b ws : List ℕ) (n i : ℕ) → b ≡ table (bit_at (get_or ws (n / 64) 0)) 0 64 → 64 * (n / 64) ≤ i → i < n
    → byte_at b (i % 64) ≡ mask_value ws i
last_bit b ws n i is low high =
    let x : ℕ = get_or ws (n / 64) 0 in
    let e : 64 * (n / 64) + i % 64 ≡ i = omega arith in
    ap (λ (l : List ℕ). byte_at l (i % 64)) is
    ∙ get_or-table (bit_at x) 0 0 64 (i % 64) (omega arith)
    ∙ ap (bit_at x) (zero-add (i % 64))
    ∙ sym (flag-mask_has ws (n / 64) (i % 64) (omega arith))
    ∙ ap (mask_value ws) e

pub last-bits : (b ws : List ℕ) (n w : ℕ) → b ≡ table (bit_at (get_or ws (n / 64) 0)) 0 64 → w ≡ n / 64
    → take (n % 64) b ≡ table (mask_value ws) (64 * w) (n % 64)
last-bits b ws n w is last =
    let l : length b ≡ 64 = ap length is ∙ length-table (bit_at (get_or ws (n / 64) 0)) 0 64 in
    part-table b (mask_value ws) 0 (64 * w) (n % 64) (omega arith)
    (λ j h. ap (byte_at b) (omega arith) ∙ last_bit b ws n (64 * w + j) is (omega arith) (omega arith))

-- ---- a map of 0 and 1

pub primary-bits : (n : ℕ) (ws : List ℕ) → table (mask_value ws) 0 n ≡ primary n (mask_value ws)
unfolding primary
primary-bits n ws =
    table-cong (mask_value ws) (λ (i : ℕ). primary_byte (mask_value ws i)) 0 n
    (λ i h. sym (primary_byte-inline (mask_value ws i) (omega (arith, flag-le (mask_has ws i)))))

module _ (n : ℕ) (v : ℕ → ℕ) (low : (i : ℕ) → v i < 255) where
  slots-none : overflow_slots n v ≡ []
  slots-none =
      sym (slots_from-start n v)
      ∙ slots_from-gap n v 0 n (omega arith) (omega arith) (λ j h₁ h₂. low j)
      ∙ slots_from-end n v n (omega arith)

  pub count_none : 0 ≡ overflow_count n v
  unfolding overflow_count
  count_none = ap length (sym slots-none)

  pub part_none : overflow_part n v ≡ []
  unfolding overflow_part joined
  part_none = rw slots-none

pub index-none : (d : List ℕ) (n : ℕ) → index_from d n 0 ≡ []
unfolding index_from joined table
index-none d n = rw (index_len-zero 0 (index_step-few 0 (omega arith)))
