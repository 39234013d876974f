-- Close over entry structs: what its passes over them answer.
--   slots_of es, distances_of es   the slots and the distances of entries
--   parts_of bytes es             a primary array and entries, as parts
--   SmallDistances es            each distance is below 2^32
--   entries_verdict P, slots_verdict P    refusal 6 or 7 of parts, or neither
-- Laws are in proofs/PassesLaws.antt. Axioms: none.
use Rattle.std.specs.Prelude.{Ok, ℕ, ◌≤◌, ◌<◌, List, length, map}
use Rattle.pciv_format.specs.Layout.{max_distance, at}
use Rattle.pciv_format.specs.declared.RefusalKind.TheVariants.{BadOverflowEntry, MissingOverflowEntry}
use Rattle.pciv_format.specs.Refusals.{Outcome, refuse_first}
use Rattle.pciv_format.specs.Parts.{Parts, bad_entry, bad_slot}
use Rattle.pciv_format.specs.Write.{close_parts}
use Rattle.pciv_format.specs.declared.Entry.{Entry}

abbrev pub slots_of : List Entry → List ℕ
slots_of es = map (λ (e : Entry). e.slot) es

abbrev pub distances_of : List Entry → List ℕ
distances_of es = map (λ (e : Entry). e.distance) es

abbrev pub parts_of : List ℕ → List Entry → Parts
parts_of bytes es = close_parts bytes (slots_of es) (distances_of es)

abbrev pub SmallDistances : List Entry → Type 0
SmallDistances es = (j : ℕ) → j < length es → at (distances_of es) j ≤ max_distance

abbrev pub entries_verdict : Parts → Outcome Unit
entries_verdict P = refuse_first BadOverflowEntry 1 (bad_entry P) P.k (Ok tt)

abbrev pub slots_verdict : Parts → Outcome Unit
slots_verdict P = refuse_first MissingOverflowEntry 1 (bad_slot P) P.n (Ok tt)
