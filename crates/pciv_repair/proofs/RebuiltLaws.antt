-- The rebuilt file, in the terms of the bytes that it was made of.
--   rebuilt-accepted               it passes the check, with its summary
--   rebuilt-header, rebuilt-byte   its header, and the primary byte of a slot
--   rebuilt-overflow, rebuilt-entries    its overflow entries are the bytes of those that are kept
--   rebuilt-index                  behind them stands its index
-- Axioms: none.
use Rattle.std.proofs.Common.{Ok}
use mathlib.Core.Path.{◌≡◌, sym, ap, ◌∙◌}
use Prim.Native.Nat.{ℕ, ◌+◌, ◌*◌, ◌<◌}
use native.Mathlib.Nat.{zero-add}
use mathlib.Core.List.{List}
use lib.ListN.{get_or, take, drop}
use Rattle.pciv_bytes.specs.Ranges.{table, joined}
use Rattle.pciv_bytes.specs.LittleEndian.{Bytes}
use Rattle.pciv_bytes.specs.ByteAt.{byte_at}
use Rattle.pciv_bytes.proofs.RangesLaws.{get_or-table}
use Rattle.pciv_format.specs.Layout.{overflow_count, overflow_part, summary}
use Rattle.pciv_format.specs.Check.{k_field, file_parts, CheckedHeader}
use Rattle.pciv_format.specs.Read.{check_file}
use Rattle.pciv_format.proofs.FileLaws.{file-header, file-byte}
use Rattle.pciv_format.proofs.PrimaryLaws.{primary-byte}
use Rattle.pciv_format.proofs.Acceptance.{file-accepted, file-table, summary-table, table-limits}
use Rattle.pciv_repair_file.specs.Repaired.{kept_entries, repaired_parts, repaired_at, repaired_file}
use Rattle.pciv_repair_file.specs.Repaired.{rebuilt_index, PartsGiven}
use Rattle.pciv_repair_file.proofs.RepairedLaws.{repaired-le, repaired-primary, repaired-entries}
use Rattle.pciv_repair_file.proofs.WholeLaws.{kept-bytes}
use Rattle.pciv_repair.specs.Applied.{entry_bytes}
use Rattle.pciv_repair.proofs.SplitLaws.{file-entries, file-index}

module _ (b : List ℕ) (n k : ℕ) (bytes : Bytes b) (given : PartsGiven b n k) where
  pub rebuilt-accepted : (mp : ℕ) → check_file mp (repaired_file b n k) ≡ Ok (summary n (repaired_at b n k))
  rebuilt-accepted mp =
      let v : ℕ → ℕ = repaired_at b n k in
      ap (check_file mp) (file-table n v)
      ∙ file-accepted mp (table v 0 n) (table-limits n v given.small (repaired-le b n k bytes))
      ∙ ap Ok (sym (summary-table n v))

  pub rebuilt-header : CheckedHeader (repaired_file b n k) n (overflow_count n (repaired_at b n k))
  rebuilt-header = file-header n (repaired_at b n k) given.small (repaired-le b n k bytes)

  pub rebuilt-byte : (i : ℕ) → i < n
      → byte_at (repaired_file b n k) (40 + i) ≡ (repaired_parts (file_parts b n k)).byte i
  rebuilt-byte i h =
      let v : ℕ → ℕ = repaired_at b n k in
      let byte : ℕ → ℕ = (repaired_parts (file_parts b n k)).byte in
      file-byte n v given.small (repaired-le b n k bytes) i h
      ∙ sym (primary-byte n v i h)
      ∙ ap (λ (l : List ℕ). get_or l i 0) (repaired-primary b n k bytes)
      ∙ get_or-table byte 0 0 n i h
      ∙ ap byte (zero-add i)

  pub rebuilt-overflow : overflow_part n (repaired_at b n k) ≡ joined (entry_bytes b n) (kept_entries (file_parts b n k))
  rebuilt-overflow = repaired-entries b n k bytes ∙ kept-bytes b n k bytes given.inside

  pub rebuilt-entries : take (12 * k_field (repaired_file b n k)) (drop (40 + n) (repaired_file b n k))
      ≡ joined (entry_bytes b n) (kept_entries (file_parts b n k))
  rebuilt-entries = rw rebuilt-header.k_is (file-entries n (repaired_at b n k) ∙ rebuilt-overflow)

  pub rebuilt-index : drop (40 + n + 12 * k_field (repaired_file b n k)) (repaired_file b n k) ≡ rebuilt_index b n k
  rebuilt-index = rw rebuilt-header.k_is (file-index n (repaired_at b n k))
