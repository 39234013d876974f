-- The entries of the slots behind entry j - 1 are left.
use Rattle.std.proofs.Common.{◌+◌, ◌-◌, ◌≤◌}
use Rattle.pciv_format.specs.Parts.{lowest_slot}
use Rattle.pciv_format.specs.Check.{file_parts}
use Rattle.pciv_build.proofs.EntriesLaws.{EntriesLeft}
use Rattle.pciv_mask_primary.specs.Masked.{masked_distance}
use Rattle.pciv_mask_primary.specs.declared.MaskedOp.TheVariants.{Keep}
use Rattle.pciv_mask_apply.proofs.kept.put_kept.Given as goal

abbrev pub invariant-loop-at : goal.invariant-loop-at
invariant-loop-at l =
    (l.j ≤ l.k)
    × EntriesLeft l.n (masked_distance Keep (file_parts l.file l.n l.k) l.words) l.initial.out (40 + l.n)
    (lowest_slot (file_parts l.file l.n l.k) l.j) l.out l.at

abbrev pub decreases-loop-at : goal.decreases-loop-at
decreases-loop-at l = l.k - l.j
