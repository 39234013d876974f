-- Arithmetic on maps (docs/FORMAT.md, "Arithmetic").
--   slot_op o x y                  minimum, maximum, sum or difference of two distances
--   pair_outcome                   both checks, then refusal 10, then what follows for n slots
--   combined_at o xs ys i          the slot operation at slot i of two lists
--   combine_maps_outcome, combine_maps_buffer    on two maps, written as a file
--   shifted_by d x                 a distance shifted by d centimetres, and at_least_zero
--   shift_outcome, shift_buffer     a map shifted, written as a file
--   signed_differences xs ys       the exact y - x of each slot ("change")
--   signed_difference_outcome, signed_difference_list    these of two maps, into a list
-- Laws of the shift are in proofs/ZeroLaws.antt. Axioms: none.
use Rattle.pciv_format.specs.declared.RefusalKind.TheVariants.{SizeMismatch}
use Rattle.std.specs.Prelude.{ℕ, ◌+◌, ◌-◌, min, max, not, cond, List, length, eqb, ℤ, pos, negsuc, ◌+ℤ◌, ◌-ℤ◌}
use Rattle.pciv_bytes.specs.Ranges.{table}
use Rattle.pciv_format.specs.Layout.{at}
use Rattle.pciv_format.specs.Refusals.{Outcome, refuse, refuse_if, and_then, written}
use Rattle.pciv_format.specs.Check.{counts_file}
use Rattle.pciv_format.specs.Read.{list_of, items_into}
use Rattle.pciv_format.specs.Write.{map_into, file_buffer}
use Rattle.pciv_format.specs.declared.Summary.{Summary}
use Rattle.pciv_format.specs.declared.SlotOp.{SlotOp}
use Rattle.pciv_format.specs.declared.SlotOp.TheVariants.{Minimum, Maximum, Sum, Difference}

-- a difference that would be negative is 0
abbrev pub slot_op : SlotOp → ℕ → ℕ → ℕ
slot_op Minimum x y = min x y
slot_op Maximum x y = max x y
slot_op Sum x y = x + y
slot_op Difference x y = x - y

module _ {A : Type 0} where
  abbrev pub pair_outcome : List ℕ → List ℕ → (ℕ → Outcome A) → Outcome A
  pair_outcome a b next =
      and_then (counts_file 1 a)
      (λ s. and_then (counts_file 2 b) (λ t. refuse_if (not (eqb s.n t.n)) (refuse SizeMismatch 0 0) (next s.n)))

-- the distance of the result at slot i
abbrev pub combined_at : SlotOp → List ℕ → List ℕ → ℕ → ℕ
combined_at o xs ys i = slot_op o (at xs i) (at ys i)

unfoldable pub combine_maps_outcome : SlotOp → List ℕ → List ℕ → ℕ → Outcome Summary
combine_maps_outcome o a b capacity = pair_outcome a b (λ n. map_into n (combined_at o (list_of a) (list_of b)) capacity)

unfoldable pub combine_maps_buffer : SlotOp → List ℕ → List ℕ → List ℕ → List ℕ
combine_maps_buffer o a b out =
    file_buffer (combine_maps_outcome o a b (length out)) (length (list_of a)) (combined_at o (list_of a) (list_of b)) out

-- ---- shift

abbrev pub at_least_zero : ℤ → ℕ
at_least_zero (pos x) = x
at_least_zero (negsuc x) = 0

-- a zero distance ("hole") stays; any other one ("reading") is at least 1 afterwards
unfoldable pub shifted_by : ℤ → ℕ → ℕ
shifted_by d x = cond (eqb x 0) 0 (max 1 (at_least_zero (pos x +ℤ d)))

unfoldable pub shift_outcome : List ℕ → ℤ → ℕ → Outcome Summary
shift_outcome b d capacity = and_then (counts_file 1 b) (λ s. map_into s.n (λ i. shifted_by d (at (list_of b) i)) capacity)

unfoldable pub shift_buffer : List ℕ → ℤ → List ℕ → List ℕ
shift_buffer b d out =
    file_buffer (shift_outcome b d (length out)) (length (list_of b)) (λ i. shifted_by d (at (list_of b) i)) out

-- ---- the signed difference b - a

unfoldable pub signed_differences : List ℕ → List ℕ → List ℤ
signed_differences xs ys = table (λ (i : ℕ). pos (at ys i) -ℤ pos (at xs i)) 0 (length xs)

unfoldable pub signed_difference_outcome : List ℕ → List ℕ → ℕ → Outcome ℕ
signed_difference_outcome a b capacity = pair_outcome a b (λ n. items_into n capacity)

unfoldable pub signed_difference_list : List ℕ → List ℕ → List ℤ → List ℤ
signed_difference_list a b out =
    written (signed_difference_outcome a b (length out)) (signed_differences (list_of a) (list_of b)) out
