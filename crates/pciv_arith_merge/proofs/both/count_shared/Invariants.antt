-- Of the slots below the least one that entry j of the first map may have, those in overflow in both are counted.
use Rattle.pciv_format.specs.Parts.{lowest_slot}
use Rattle.pciv_format.specs.Check.{file_parts}
use Rattle.pciv_format.specs.declared.SlotOp.TheVariants.{Minimum}
use Rattle.pciv_build.proofs.EntriesLaws.{Counted}
use Rattle.pciv_arith_merge.specs.Merge.{combined_of}
use Rattle.pciv_arith_merge.proofs.both.count_shared.Given as goal

abbrev pub invariant-loop-j : goal.invariant-loop-j
invariant-loop-j l =
    Counted l.n (combined_of Minimum (file_parts l.a l.n l.ka) (file_parts l.b l.n l.kb))
    (lowest_slot (file_parts l.a l.n l.ka) l.j) l.count
