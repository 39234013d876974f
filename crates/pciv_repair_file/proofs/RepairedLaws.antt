-- The rebuilt file, part by part, in the terms of the kept entries and the bytes that are set.
--   repaired_at-is                the distance of a slot
--   repaired-slots, -count       its slots in overflow are those of the kept entries
--   repaired-primary, -entries   its primary array and its overflow entries
--   repaired-le                  every distance is within the limit
-- Axioms: none.
use mathlib.Core.Path.{◌≡◌, refl, sym, ap, ◌∙◌}
use Prim.Native.Nat.{ℕ, ◌+◌, ◌*◌, ◌≤◌, ◌<◌}
use native.Mathlib.Nat.{zero-add}
use native.Mathlib.Omega.{arith}
use mathlib.Core.List.{List}
use lib.ListN.{length, get_or}
use Rattle.pciv_bytes.specs.Ranges.{table}
use Rattle.pciv_bytes.specs.LittleEndian.{Bytes}
use Rattle.pciv_bytes.proofs.RangesLaws.{length-table, get_or-table}
use Rattle.pciv_bytes.proofs.LittleEndianLaws.{get-lt}
use Rattle.pciv_format.specs.Layout.{max_distance, primary, overflow_slots, overflow_count, overflow_part}
use Rattle.pciv_format.specs.Parts.{Parts, value_of}
use Rattle.pciv_format.specs.Check.{file_parts}
use Rattle.pciv_format.proofs.PartsLaws.{primary_byte-value_of, value_of-le, overflow_slots-are, overflow_count-is}
use Rattle.pciv_format.proofs.PrimaryLaws.{primary-is}
use Rattle.pciv_close.proofs.SoundLaws.{overflow_part-is}
use Rattle.pciv_repair_file.specs.Repaired.{kept_entries, kept_parts, repaired_parts, repaired_at, kept_bytes}
use Rattle.pciv_repair_file.proofs.KeptLaws.{repaired-sound, repaired-byte}

module _ (b : List ℕ) (n k : ℕ) where
  abbrev parts : Parts
  parts = file_parts b n k

  pub repaired_at-is : (i : ℕ) → repaired_at b n k i ≡ value_of (repaired_parts (file_parts b n k)) i
  unfolding repaired_at
  repaired_at-is i = refl

  module _ (bytes : Bytes b) where
    each-byte : (i : ℕ) → (repaired_parts parts).byte i < 256
    each-byte = repaired-byte parts (λ i. bytes (40 + i))

    pub repaired-slots : overflow_slots n (repaired_at b n k)
        ≡ table (kept_parts (file_parts b n k)).slot 0 (length (kept_entries (file_parts b n k)))
    unfolding repaired_at
    repaired-slots = overflow_slots-are (repaired_parts parts) (repaired-sound parts) each-byte

    pub repaired-count : overflow_count n (repaired_at b n k) ≡ length (kept_entries (file_parts b n k))
    unfolding repaired_at
    repaired-count = overflow_count-is (repaired_parts parts) (repaired-sound parts) each-byte

    pub repaired-primary : primary n (repaired_at b n k) ≡ table (repaired_parts (file_parts b n k)).byte 0 n
    unfolding repaired_at
    repaired-primary =
        primary-is n (value_of (repaired_parts parts)) (table (repaired_parts parts).byte 0 n)
        (length-table (repaired_parts parts).byte 0 n)
        (λ i h.
        primary_byte-value_of (repaired_parts parts) (repaired-sound parts) each-byte i h
        ∙ sym (get_or-table (repaired_parts parts).byte 0 0 n i h ∙ ap (repaired_parts parts).byte (zero-add i)))

    pub repaired-entries : overflow_part n (repaired_at b n k) ≡ kept_bytes (file_parts b n k)
    unfolding repaired_at kept_bytes
    repaired-entries = overflow_part-is (repaired_parts parts) (repaired-sound parts) each-byte

    pub repaired-le : (i : ℕ) → i < n → repaired_at b n k i ≤ max_distance
    unfolding repaired_at
    repaired-le =
        value_of-le (repaired_parts parts) (repaired-sound parts) each-byte
        (λ c h. omega (arith, get-lt 4 b (40 + n + 12 * get_or (kept_entries parts) c 0 + 8) bytes))
