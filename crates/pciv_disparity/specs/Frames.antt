-- What the passes over a frame are given and leave.
--   bytes_of T                  the primary byte of each entry of a table
--   high_of B                   256 times each byte of a table of bytes
--   begun_buffer n k v d        the buffer d after the beginning of a file of (n, v) with k overflow entries: header and
--                              primary array, or unchanged where the file does not fit
--   front_outcome B frame capacity, front_buffer B frame d
--                              the beginning of the file of a frame by a table of primary bytes
-- Laws are in proofs/FrameLaws.antt. Axioms: none.
use Rattle.std.specs.Prelude.{ℕ, ◌*◌, cond, List, length, ltb}
use Rattle.std.proofs.lemmas.List.Edits.{sets}
use Rattle.pciv_bytes.specs.Ranges.{table}
use Rattle.pciv_format.specs.Layout.{primary_byte, primary, overflow_count, file_len, header, at}
use Rattle.pciv_format.specs.Refusals.{Outcome}
use Rattle.pciv_format.specs.declared.Counts.{Counts}
use Rattle.pciv_build.specs.Build.{begin_outcome}
use Rattle.pciv_disparity.specs.Disparity.{frame_distance}

unfoldable pub bytes_of : List ℕ → List ℕ
bytes_of T = table (λ (d : ℕ). primary_byte (at T d)) 0 256

unfoldable pub high_of : List ℕ → List ℕ
high_of B = table (λ (d : ℕ). 256 * at B d) 0 256

unfoldable pub begun_buffer : ℕ → ℕ → (ℕ → ℕ) → List ℕ → List ℕ
begun_buffer n k v d = cond (ltb (length d) (file_len n k)) d (sets (sets d 0 (header n k)) 40 (primary n v))

abbrev pub front_outcome : List ℕ → List ℕ → ℕ → Outcome Counts
front_outcome B frame capacity =
    begin_outcome (length frame) (overflow_count (length frame) (frame_distance B frame)) capacity

abbrev pub front_buffer : List ℕ → List ℕ → List ℕ → List ℕ
front_buffer B frame d =
    begun_buffer (length frame) (overflow_count (length frame) (frame_distance B frame)) (frame_distance B frame) d
