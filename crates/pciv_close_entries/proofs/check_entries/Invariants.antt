-- The entries before j are right and their distances below 2^32, and `lowest` is the least slot that entry j may have.
use Rattle.std.proofs.Common.{◌≡◌, ◌≤◌, ◌<◌, ℕ, false}
use Rattle.pciv_format.specs.Layout.{max_distance, at}
use Rattle.pciv_format.specs.Parts.{lowest_slot, bad_entry}
use Rattle.pciv_close_entries.specs.Passes.{distances_of, parts_of}
use Rattle.pciv_close_entries.proofs.check_entries.Given as goal

abbrev pub invariant-loop-j : goal.invariant-loop-j
invariant-loop-j l = record {
  low : l.lowest ≡ lowest_slot (parts_of l.primary l.entries) l.j;
  right : (i : ℕ) → i < l.j → bad_entry (parts_of l.primary l.entries) i ≡ false;
  small : (i : ℕ) → i < l.j → at (distances_of l.entries) i ≤ max_distance;
}
