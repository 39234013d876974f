-- A file written part by part (docs/FORMAT.md, "Writing").
--   NoneAbove n v x              none of the n distances is above x
--   Fits n v                     every one of them can stand in a file
--   begin_outcome n k capacity    beginning a file in a buffer of so many bytes: its counts, or refusal 12
--   begin_buffer n k d            the buffer d after that: the header at its front, or unchanged
--   index_entry_from d n k i       index entry i, read off the overflow entries that stand in d
--   index_from d n k              the whole sparse index, read off them
-- Laws are in proofs/BuildLaws.antt and proofs/IntoLaws.antt. Axioms: none.
use Rattle.std.specs.Prelude.{Ok}
use Rattle.pciv_format.specs.declared.RefusalKind.TheVariants.{BufferTooSmall}
use Rattle.std.specs.Prelude.{ℕ, ◌+◌, ◌*◌, ◌≤◌, ◌<◌, cond, List, ◌++◌, length, ltb}
use Rattle.std.proofs.lemmas.List.Edits.{sets}
use Rattle.pciv_bytes.specs.Ranges.{table, joined}
use Rattle.pciv_bytes.specs.LittleEndian.{le, get}
use Rattle.pciv_format.specs.Layout.{max_distance, index_step, index_len, file_len, header, counts_of}
use Rattle.pciv_format.specs.Refusals.{Outcome, refuse, refuse_if}
use Rattle.pciv_format.specs.declared.Counts.{Counts}

abbrev pub NoneAbove : ℕ → (ℕ → ℕ) → ℕ → Type 0
NoneAbove n v x = (i : ℕ) → i < n → v i ≤ x

abbrev pub Fits : ℕ → (ℕ → ℕ) → Type 0
Fits n v = NoneAbove n v max_distance

unfoldable pub begin_outcome : ℕ → ℕ → ℕ → Outcome Counts
begin_outcome n k capacity = refuse_if (ltb capacity (file_len n k)) (refuse BufferTooSmall 0 0) (Ok (counts_of n k))

unfoldable pub begin_buffer : ℕ → ℕ → List ℕ → List ℕ
begin_buffer n k d = cond (ltb (length d) (file_len n k)) d (sets d 0 (header n k))

unfoldable pub index_entry_from : List ℕ → ℕ → ℕ → ℕ → List ℕ
index_entry_from d n k i = le 8 (get 8 d (40 + n + 12 * (i * index_step k))) ++ le 8 (i * index_step k)

unfoldable pub index_from : List ℕ → ℕ → ℕ → List ℕ
index_from d n k = joined (index_entry_from d n k) (table (λ (i : ℕ). i) 0 (index_len k))
