-- No slot below `from` lacks its entry, and `from` is the least slot that the next entry may have.
use Rattle.std.proofs.Common.{◌≡◌}
use Rattle.pciv_format.specs.Parts.{lowest_slot}
use Rattle.pciv_format.proofs.FullSearchLaws.{Searched}
use Rattle.pciv_close.specs.Close.{slot_parts}
use Rattle.pciv_close.proofs.search_slots.Given as goal

abbrev pub invariant-loop-slot : goal.invariant-loop-slot
invariant-loop-slot l =
    record {
      lowest : l.from ≡ lowest_slot (slot_parts l.primary l.slots) l.slot-index;
      searched : Searched (slot_parts l.primary l.slots) l.from;
    }
