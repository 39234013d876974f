-- The slots in overflow below the least one that entry j may have are counted.
use Rattle.pciv_format.specs.Parts.{lowest_slot}
use Rattle.pciv_format.specs.Check.{file_parts}
use Rattle.pciv_build.proofs.EntriesLaws.{Counted}
use Rattle.pciv_arith_lower.specs.Lowered.{lowered_at}
use Rattle.pciv_arith_lower.proofs.count_lowered.Given as goal

abbrev pub invariant-loop-j : goal.invariant-loop-j
invariant-loop-j l =
    Counted l.n (lowered_at (file_parts l.file l.n l.k) l.m) (lowest_slot (file_parts l.file l.n l.k) l.j) l.count
