-- What close answers and leaves in the buffer, case by case.
--   Ends o buffer                close answers o, and leaves this buffer
--   close-many, -entry, -slot    the refusals 3, 6 and 7
--   close-sound                  else the file of sound parts
-- Axioms: none.
use Rattle.pciv_format.specs.declared.RefusalKind.TheVariants.{TooManySlots, BadOverflowEntry, MissingOverflowEntry}
use mathlib.Core.Path.{◌≡◌, ap, ◌∙◌}
use Prim.Native.Nat.{ℕ, ◌≤◌, ◌<◌}
use mathlib.Core.List.{List}
use lib.ListN.{length}
use borrow.Author.Tests.{lt-ltb, le-ltb}
use Rattle.pciv_bytes.specs.Ranges.{first_below}
use Rattle.pciv_format.specs.Layout.{max_slots}
use Rattle.pciv_format.specs.Refusals.{Outcome, refuse}
use Rattle.pciv_format.specs.Parts.{Parts, bad_entry, bad_slot, value_of, EntriesRight, SoundParts}
use Rattle.pciv_format.specs.Write.{file_buffer, close_parts, close_outcome, close_buffer}
use Rattle.pciv_format.specs.declared.Summary.{Summary}
use Rattle.pciv_format.proofs.RefusalsLaws.{refuse_first-none, refuse_first-some}
use Rattle.pciv_close.specs.Close.{parts_outcome, parts_buffer}

module _ (bytes slots distances out : List ℕ) where
  abbrev parts : Parts
  parts = close_parts bytes slots distances

  abbrev pub Ends : Outcome Summary → List ℕ → Type 0
  Ends o buffer =
      (close_outcome bytes slots distances (length out) ≡ o) × (close_buffer bytes slots distances out ≡ buffer)

  -- the buffer that goes with an outcome
  abbrev left : Outcome Summary → List ℕ
  left o = file_buffer o (length bytes) (value_of parts) out

  ends : (o : Outcome Summary) → close_outcome bytes slots distances (length out) ≡ o → Ends o (left o)
  unfolding close_buffer
  ends o e = (e, ap left e)

  pub close-many : max_slots < length bytes → Ends (refuse TooManySlots 1 0) out
  unfolding close_outcome
  close-many many = ends (refuse TooManySlots 1 0) (rw (lt-ltb max_slots (length bytes) many))

  module _ (few : length bytes ≤ max_slots) where
    pub close-entry : (place : ℕ) → place ≡ first_below (bad_entry parts) parts.k → place < parts.k
        → Ends (refuse BadOverflowEntry 1 place) out
    unfolding close_outcome
    close-entry place e h =
        ends (refuse BadOverflowEntry 1 place)
        (rw (le-ltb max_slots (length bytes) few) (refuse_first-some BadOverflowEntry 1 (bad_entry parts) parts.k place _ e h))

    pub close-slot : EntriesRight parts → (place : ℕ) → place ≡ first_below (bad_slot parts) (length bytes)
        → place < length bytes → Ends (refuse MissingOverflowEntry 1 place) out
    unfolding close_outcome
    close-slot right place e h =
        ends (refuse MissingOverflowEntry 1 place)
        (rw (le-ltb max_slots (length bytes) few)
        (refuse_first-none BadOverflowEntry 1 (bad_entry parts) parts.k _ right
        ∙ refuse_first-some MissingOverflowEntry 1 (bad_slot parts) parts.n place _ e h))

    pub close-sound : SoundParts parts → Ends (parts_outcome parts (length out)) (parts_buffer parts out)
    unfolding close_outcome
    close-sound sound =
        ends (parts_outcome parts (length out))
        (rw (le-ltb max_slots (length bytes) few)
        (refuse_first-none BadOverflowEntry 1 (bad_entry parts) parts.k _ sound.entries
        ∙ refuse_first-none MissingOverflowEntry 1 (bad_slot parts) parts.n _ sound.slots))
