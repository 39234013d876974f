-- Two maps combined, slot by slot: A and B are the parts of the first and of the second (docs/FORMAT.md, "Arithmetic").
--   combined_of o A B i       the combined distance at slot i
--   combined_bytes o A B i    the operation o on the primary bytes of slot i
--   slot_op_of o               a merge's operation as one of slots
--   result_of o a b n ka kb   the result of a routine on two files
--   parts_put n v d           the buffer d with the primary array and the overflow entries of v in their places
--   combined_into o .. capacity   the outcome of writing the combination's file into a buffer of `capacity` bytes
--   combined_buffer o .. out  the buffer after that
--   Shrinks o                the result is never above the first distance
--   Before P i t             the entries before entry t of P have slots below i
--   FoundAt, CombinedAt      what a walk finds at a slot, and at an entry of the first map
--   InlineRight A v d        the primary bytes in a buffer d are those of v where A is stored inline
-- Laws are in proofs/CombineLaws.antt and proofs/LedLaws.antt. Axioms: none.
use Rattle.std.specs.Prelude.{◌≡◌, ℕ, ◌+◌, ◌≤◌, ◌<◌, List, length, get_or}
use Rattle.std.proofs.lemmas.List.Edits.{sets}
use Rattle.pciv_passes.specs.Pairs.{byte_op}
use Rattle.pciv_passes.specs.declared.pairs.ByteOp.{ByteOp}
use Rattle.pciv_format.specs.Layout.{primary_byte, primary, overflow_part}
use Rattle.pciv_format.specs.Refusals.{Outcome}
use Rattle.pciv_format.specs.Parts.{Parts, lowest_slot, value_of}
use Rattle.pciv_format.specs.Check.{file_parts}
use Rattle.pciv_format.specs.Write.{map_into, file_buffer}
use Rattle.pciv_format.specs.Arith.{slot_op}
use Rattle.pciv_format.specs.declared.Summary.{Summary}
use Rattle.pciv_format.specs.declared.SlotOp.{SlotOp}
use Rattle.pciv_format.specs.declared.SlotOp.TheVariants as SlotOps
use Rattle.pciv_arith_merge.specs.declared.combine.MergeOp.{MergeOp}
use Rattle.pciv_arith_merge.specs.declared.combine.MergeOp.TheVariants.{Minimum, Maximum, Difference}
use Rattle.pciv_arith_merge.specs.declared.led.Found.{Found}
use Rattle.pciv_arith_merge.specs.declared.led.Combined.{Combined}

abbrev pub combined_of : SlotOp → Parts → Parts → ℕ → ℕ
combined_of o A B i = slot_op o (value_of A i) (value_of B i)

abbrev pub combined_bytes : ByteOp → Parts → Parts → ℕ → ℕ
combined_bytes o A B i = byte_op o (A.byte i) (B.byte i)

-- the operation of a routine, and its result on two files
abbrev pub slot_op_of : MergeOp → SlotOp
slot_op_of Minimum = SlotOps.Minimum
slot_op_of Maximum = SlotOps.Maximum
slot_op_of Difference = SlotOps.Difference

abbrev pub result_of : MergeOp → List ℕ → List ℕ → ℕ → ℕ → ℕ → ℕ → ℕ
result_of o a b n ka kb = combined_of (slot_op_of o) (file_parts a n ka) (file_parts b n kb)

abbrev pub parts_put : ℕ → (ℕ → ℕ) → List ℕ → List ℕ
parts_put n v d = sets (sets d 40 (primary n v)) (40 + n) (overflow_part n v)

abbrev pub combined_into : MergeOp → List ℕ → List ℕ → ℕ → ℕ → ℕ → ℕ → Outcome Summary
combined_into o a b n ka kb capacity = map_into n (result_of o a b n ka kb) capacity

abbrev pub combined_buffer : MergeOp → List ℕ → List ℕ → ℕ → ℕ → ℕ → List ℕ → List ℕ
combined_buffer o a b n ka kb out =
    file_buffer (combined_into o a b n ka kb (length out)) n (result_of o a b n ka kb) out

-- ---- walks

abbrev pub Shrinks : SlotOp → Type 0
Shrinks o = (x y : ℕ) → slot_op o x y ≤ x

pub record Before (P : Parts) (i t : ℕ) : Type 0 where
  pub inside : t ≤ P.k
  pub low : lowest_slot P t ≤ i

pub record FoundAt (P : Parts) (slot : ℕ) (r : Found) : Type 0 where
  pub distance : r.distance ≡ value_of P slot
  pub before : Before P (slot + 1) r.entry

pub record CombinedAt (o : SlotOp) (A B : Parts) (j : ℕ) (r : Combined) : Type 0 where
  pub slot : r.slot ≡ A.slot j
  pub distance : r.distance ≡ combined_of o A B (A.slot j)
  pub before : Before B (A.slot j + 1) r.next

pub record InlineRight (A : Parts) (v : ℕ → ℕ) (d : List ℕ) : Type 0 where
  pub space : 40 + A.n ≤ length d
  pub right : (i : ℕ) → i < A.n → A.byte i < 255 → get_or d (40 + i) 0 ≡ primary_byte (v i)
