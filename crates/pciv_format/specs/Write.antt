-- What the routines that write a file answer, and what the caller's buffer holds then (docs/FORMAT.md, "Writing").
--   file_into n v capacity   the file of (n, v) into a buffer of `capacity` bytes: its summary, or refusal 12
--   map_into n v capacity    the same for a computed v, refused with 11 where a distance is too large
--   file_buffer o n v out    the buffer after the outcome o of writing that file
--   write_outcome, write_buffer    the file of a list
--   close_parts              a primary array and lists of slots and distances, as parts
--   close_outcome, close_buffer    the file of a primary array and a list of overflow entries
-- Axioms: none.
use Rattle.std.specs.Prelude.{Ok}
use Rattle.pciv_format.specs.declared.RefusalKind.TheVariants.{TooManySlots, DistanceOverflow, BufferTooSmall}
use Rattle.std.specs.Prelude.{ℕ, max, List, length, get_or, ltb}
use Rattle.pciv_format.specs.Layout.{max_slots, max_distance, file, summary, at}
use Rattle.pciv_format.specs.Refusals.{Outcome, refuse, refuse_if, refuse_first, written}
use Rattle.pciv_format.specs.Parts.{Parts, value_of, refuse_parts}
use Rattle.pciv_format.specs.declared.Summary.{Summary}

abbrev pub file_into : ℕ → (ℕ → ℕ) → ℕ → Outcome Summary
file_into n v capacity = refuse_if (ltb capacity (length (file n v))) (refuse BufferTooSmall 0 0) (Ok (summary n v))

abbrev pub map_into : ℕ → (ℕ → ℕ) → ℕ → Outcome Summary
map_into n v capacity = refuse_first DistanceOverflow 0 (λ (i : ℕ). ltb max_distance (v i)) n (file_into n v capacity)

abbrev pub file_buffer : Outcome Summary → ℕ → (ℕ → ℕ) → List ℕ → List ℕ
file_buffer o n v out = written o (file n v) out

unfoldable pub write_outcome : List ℕ → ℕ → Outcome Summary
write_outcome xs capacity = refuse_if (ltb max_slots (length xs)) (refuse TooManySlots 1 0) (file_into (length xs) (at xs) capacity)

unfoldable pub write_buffer : List ℕ → List ℕ → List ℕ
write_buffer xs out = file_buffer (write_outcome xs (length out)) (length xs) (at xs) out

-- entry j is slot j of the one list and distance j of the other; where one list is shorter, the entry that it
-- lacks is wrong (its slot would be n, its distance 0), so that 6 is the refusal. That is chosen here: the format's
-- source has no such case
abbrev pub close_parts : List ℕ → List ℕ → List ℕ → Parts
close_parts bytes slots distances =
    record {
      n = length bytes;
      k = max (length slots) (length distances);
      byte = λ i. get_or bytes i 0;
      slot = λ j. get_or slots j (length bytes);
      distance = λ j. get_or distances j 0;
    }

unfoldable pub close_outcome : List ℕ → List ℕ → List ℕ → ℕ → Outcome Summary
close_outcome bytes slots distances capacity =
    refuse_if (ltb max_slots (length bytes)) (refuse TooManySlots 1 0)
    (refuse_parts 1 (close_parts bytes slots distances)
    (file_into (length bytes) (value_of (close_parts bytes slots distances)) capacity))

unfoldable pub close_buffer : List ℕ → List ℕ → List ℕ → List ℕ → List ℕ
close_buffer bytes slots distances out =
    file_buffer (close_outcome bytes slots distances (length out)) (length bytes)
    (value_of (close_parts bytes slots distances)) out
