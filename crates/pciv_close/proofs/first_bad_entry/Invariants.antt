-- The entries below j are right, and `lowest` is the least slot that entry j may have.
use Rattle.std.proofs.Common.{◌≡◌, ℕ, ◌<◌, false}
use Rattle.pciv_format.specs.Parts.{lowest_slot, bad_entry}
use Rattle.pciv_format.specs.Write.{close_parts}
use Rattle.pciv_close.proofs.first_bad_entry.Given as goal

abbrev pub invariant-loop-j : goal.invariant-loop-j
invariant-loop-j l =
    record {
      lowest : l.lowest ≡ lowest_slot (close_parts l.primary l.slots l.distances) l.j;
      right : (i : ℕ) → i < l.j → bad_entry (close_parts l.primary l.slots l.distances) i ≡ false;
    }
