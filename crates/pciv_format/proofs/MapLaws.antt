-- Laws of a checked map: where its primary bytes and overflow entries stand, and what they add up to.
--   primary_of b n    the primary bytes, as the part of b that other routines are given
--   primary-inside, -length, -at, -over    they lie within b; how many they are; byte i; as a list of distances
--   entry-inside     entry j lies within b
--   value-lt, sum_lt, excess_lt    every distance fits 32 bits, and sums of them 52
--   sum-primary      what the primary bytes and the entries add up to
-- Axioms: none.
use mathlib.Core.Path.{◌≡◌, sym, ap, ◌∙◌}
use Prim.Native.Nat.{ℕ, ◌+◌, ◌*◌, ◌^◌, ◌≤◌, ◌<◌}
use native.Mathlib.Nat.{zero-add}
use native.Mathlib.Omega.{arith}
use mathlib.Core.List.{List}
use lib.ListN.{length, take, drop, length-drop}
use lib.Seq.{sets, ext_get_or, length-take-le, get_or-take, get_or-drop}
use Rattle.pciv_bytes.specs.Ranges.{table, sum_from}
use Rattle.pciv_bytes.specs.LittleEndian.{Bytes}
use Rattle.pciv_bytes.specs.ByteAt.{byte_at}
use Rattle.pciv_bytes.proofs.RangesLaws.{length-table, get_or-table}
use Rattle.pciv_bytes.proofs.SumLaws.{sum_from-cong, sum_from-le}
use Rattle.pciv_bytes.proofs.LittleEndianLaws.{get-lt}
use Rattle.pciv_format.specs.Layout.{max_distance}
use Rattle.pciv_format.specs.Parts.{value_of}
use Rattle.pciv_format.specs.Check.{file_parts, CheckedMap}
use Rattle.pciv_format.proofs.PartsLaws.{value_of-le}
use Rattle.pciv_format.proofs.LayoutLaws.{file_len-is}
use Rattle.pciv_format.proofs.EntryLaws.{excess, sum-entries}
use Rattle.pciv_format.proofs.PatchLaws.{plain, over, over-sets, patched-start}

abbrev pub primary_of : List ℕ → ℕ → List ℕ
primary_of b n = take n (drop 40 b)

module _ (b : List ℕ) (n k : ℕ) (c : CheckedMap b n k) where
  pub entry-inside : (j : ℕ) → j < k → 40 + n + 12 * j + 12 ≤ length b
  entry-inside j h = omega (arith, c.fits, file_len-is n k)

  -- ---- the primary part

  pub primary-inside : 40 + n ≤ length b
  primary-inside = omega (arith, c.fits, file_len-is n k)

  pub primary-length : length (primary_of b n) ≡ n
  primary-length = length-take-le n (drop 40 b) (simp length-drop (omega (arith, primary-inside)))

  pub primary-at : (i : ℕ) → i < n → byte_at (primary_of b n) i ≡ (file_parts b n k).byte i
  primary-at i h = get_or-take n (drop 40 b) i 0 h ∙ get_or-drop 40 b i 0

  primary-table : primary_of b n ≡ table (file_parts b n k).byte 0 n
  primary-table =
      let byte : ℕ → ℕ = (file_parts b n k).byte in
      ext_get_or 0 _ _ (primary-length ∙ sym (length-table byte 0 n))
      (λ i h.
      (let inside : i < n = rw primary-length at h in
      primary-at i inside ∙ sym (get_or-table byte 0 0 n i inside ∙ ap byte (zero-add i))))

  -- ---- where b is bytes

  module _ (bytes : Bytes b) where
    -- the primary bytes at the front of a list, patched by no entry yet
    pub primary-over : (d : List ℕ) → n ≤ length d → sets d 0 (primary_of b n) ≡ over plain (file_parts b n k) 0 d
    primary-over d long =
        ap (sets d 0) (primary-table ∙ sym (patched-start plain (file_parts b n k) c.parts (λ i. bytes (40 + i))))
        ∙ over-sets plain (file_parts b n k) 0 d long

    pub value-lt : (i : ℕ) → i < n → value_of (file_parts b n k) i < 2 ^ 32
    value-lt i inside =
        let P = file_parts b n k in
        let each : (j : ℕ) → j < k → P.distance j ≤ max_distance =
        λ j h. omega (arith, get-lt 4 b (40 + n + 12 * j + 8) bytes) in
        omega (arith, value_of-le P c.parts (λ t. bytes (40 + t)) each i inside)

    pub sum-primary : sum_from (byte_at (primary_of b n)) 0 (length (primary_of b n))
        + sum_from (excess (file_parts b n k)) 0 k
        ≡ sum_from (value_of (file_parts b n k)) 0 n
    sum-primary =
        let P = file_parts b n k in
        rw primary-length
        (omega (
          arith,
          sum_from-cong (byte_at (primary_of b n)) P.byte 0 n (λ i h₁ h₂. primary-at i (omega arith)),
          sum-entries P c.parts (λ i. bytes (40 + i)),
        ))

    -- at most 2 ^ 20 distances, each below 2 ^ 32
    pub sum_lt : sum_from (value_of (file_parts b n k)) 0 n < 2 ^ 52
    sum_lt =
        let P = file_parts b n k in
        omega (
          arith,
          c.header.small,
          c.header.few,
          sum-entries P c.parts (λ i. bytes (40 + i)),
          sum_from-le P.byte 255 (λ i. omega (arith, bytes (40 + i))) 0 n,
          sum_from-le (excess P) 4294967040 (λ j. omega (arith, get-lt 4 b (40 + n + 12 * j + 8) bytes)) 0 k,
        )

    pub excess_lt : sum_from (excess (file_parts b n k)) 0 k < 2 ^ 52
    excess_lt = omega (arith, sum-primary, sum_lt)
