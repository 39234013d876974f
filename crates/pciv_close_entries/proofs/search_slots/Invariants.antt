-- No slot below `from` lacks its entry, and `from` is the least slot that the entry may have.
use Rattle.std.proofs.Common.{◌≡◌}
use Rattle.pciv_format.specs.Parts.{lowest_slot}
use Rattle.pciv_format.proofs.FullSearchLaws.{Searched}
use Rattle.pciv_close_entries.specs.Passes.{parts_of}
use Rattle.pciv_close_entries.proofs.search_slots.Given as goal

abbrev pub invariant-loop-e : goal.invariant-loop-e
invariant-loop-e l = record {
  low : l.from ≡ lowest_slot (parts_of l.primary l.entries) l.e-index;
  searched : Searched (parts_of l.primary l.entries) l.from;
}
