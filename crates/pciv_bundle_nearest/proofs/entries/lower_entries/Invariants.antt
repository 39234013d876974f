-- The loop of lower_entries: the slots below the least one that entry j may have are lowered.
use Rattle.pciv_format.specs.Parts.{lowest_slot}
use Rattle.pciv_format.specs.Check.{file_parts}
use Rattle.pciv_bundle_nearest.specs.Passes.{lowered_to, Changed}
use Rattle.pciv_bundle_nearest.proofs.entries.lower_entries.Given as goal

abbrev pub invariant-loop-j : goal.invariant-loop-j
invariant-loop-j l =
    Changed (lowered_to (file_parts l.file l.n l.k)) (lowest_slot (file_parts l.file l.n l.k) l.j) l.initial.out l.out
