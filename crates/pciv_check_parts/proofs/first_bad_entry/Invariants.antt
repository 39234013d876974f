-- Invariants of pciv_check_parts::first_bad_entry: the entries below j are right, and `lowest` is the least slot that
-- entry j may have.
use Rattle.std.proofs.Common.{◌≡◌, ℕ, ◌<◌, false}
use Rattle.pciv_format.specs.Parts.{lowest_slot, bad_entry}
use Rattle.pciv_format.specs.Check.{file_parts}
use Rattle.pciv_check_parts.proofs.first_bad_entry.Given as goal

abbrev pub invariant-loop-j : goal.invariant-loop-j
invariant-loop-j l =
    record {
      lowest : l.lowest ≡ lowest_slot (file_parts l.file l.n l.k) l.j;
      right : (i : ℕ) → i < l.j → bad_entry (file_parts l.file l.n l.k) i ≡ false;
    }
