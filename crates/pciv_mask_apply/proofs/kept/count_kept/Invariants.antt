-- count is that of the slots below the least that entry j may have.
use Rattle.pciv_format.specs.Parts.{lowest_slot}
use Rattle.pciv_format.specs.Check.{file_parts}
use Rattle.pciv_build.proofs.EntriesLaws.{Counted}
use Rattle.pciv_mask_primary.specs.Masked.{masked_distance}
use Rattle.pciv_mask_primary.specs.declared.MaskedOp.TheVariants.{Keep}
use Rattle.pciv_mask_apply.proofs.kept.count_kept.Given as goal

abbrev pub invariant-loop-j : goal.invariant-loop-j
invariant-loop-j l =
    Counted l.n (masked_distance Keep (file_parts l.file l.n l.k) l.words) (lowest_slot (file_parts l.file l.n l.k) l.j) l.count
