-- What the inner functions of close answer.
--   slot_parts bytes slots    a primary array and its entries' slots, with the distances left out
--   entries_from slot distance j c
--                        the bytes of c entries from entry j on
--   EntriesLeft          a loop that writes k entries from `start` on: d₀ had them all left, d has those from j on left
--   parts_outcome P capacity, parts_buffer P out
--                        writing the file of sound parts: the answer, and the buffer
-- Laws are in proofs/CloseLaws.antt and SoundLaws.antt. Axioms: none.
use Rattle.std.specs.Prelude.{◌≡◌, ℕ, ◌+◌, ◌-◌, ◌*◌, List, ◌++◌, length}
use Rattle.std.proofs.lemmas.List.Edits.{sets}
use Rattle.pciv_bytes.specs.Ranges.{table, joined}
use Rattle.pciv_bytes.specs.LittleEndian.{le}
use Rattle.pciv_format.specs.Layout.{at}
use Rattle.pciv_format.specs.Refusals.{Outcome}
use Rattle.pciv_format.specs.Parts.{Parts, value_of}
use Rattle.pciv_format.specs.Write.{file_into, file_buffer}
use Rattle.pciv_format.specs.declared.Summary.{Summary}

abbrev pub slot_parts : List ℕ → List ℕ → Parts
slot_parts bytes slots =
    record { n = length bytes; k = length slots; byte = at bytes; slot = at slots; distance = λ _. 255 }

unfoldable pub entries_from : (ℕ → ℕ) → (ℕ → ℕ) → ℕ → ℕ → List ℕ
entries_from slot distance j c = joined (λ (i : ℕ). le 8 (slot i) ++ le 4 (distance i)) (table (λ (i : ℕ). i) j c)

pub record EntriesLeft (slot distance : ℕ → ℕ) (k start : ℕ) (d₀ : List ℕ) (j : ℕ) (d : List ℕ) : Type 0 where
  pub size : length d ≡ length d₀
  pub rest : sets d₀ start (entries_from slot distance 0 k) ≡ sets d (start + 12 * j) (entries_from slot distance j (k - j))

abbrev pub parts_outcome : Parts → ℕ → Outcome Summary
parts_outcome P capacity = file_into P.n (value_of P) capacity

abbrev pub parts_buffer : Parts → List ℕ → List ℕ
parts_buffer P out = file_buffer (parts_outcome P (length out)) P.n (value_of P) out
