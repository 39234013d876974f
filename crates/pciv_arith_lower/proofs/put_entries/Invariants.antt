-- The entries of the slots from the least one that entry j may have are left to write.
use Rattle.std.proofs.Common.{◌+◌}
use Rattle.pciv_format.specs.Parts.{lowest_slot}
use Rattle.pciv_format.specs.Check.{file_parts}
use Rattle.pciv_build.proofs.EntriesLaws.{EntriesLeft}
use Rattle.pciv_arith_lower.specs.Lowered.{lowered_at}
use Rattle.pciv_arith_lower.proofs.put_entries.Given as goal

abbrev pub invariant-loop-j : goal.invariant-loop-j
invariant-loop-j l =
    let P = file_parts l.file l.n l.k in
    EntriesLeft l.n (lowered_at P l.m) l.fn.out (40 + l.n) (lowest_slot P l.j) l.out l.at
