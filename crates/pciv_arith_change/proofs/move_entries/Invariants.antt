-- Putting all entries right at the start is putting right those from entry j on now; numbers from the least slot that
-- entry j may have on are small.
use Rattle.std.proofs.Common.{◌≡◌, ◌-◌}
use Rattle.pciv_format.specs.Parts.{lowest_slot}
use Rattle.pciv_format.specs.Check.{file_parts}
use Rattle.pciv_arith_change.specs.Differences.{moved_from, SmallFrom}
use Rattle.pciv_arith_change.proofs.move_entries.Given as goal

abbrev pub invariant-loop-j : goal.invariant-loop-j
invariant-loop-j l =
    let P = file_parts l.file l.n l.k in
    record {
      small : SmallFrom (lowest_slot P l.j) l.n l.out;
      left : moved_from l.side P 0 l.k l.fn.out ≡ moved_from l.side P l.j (l.k - l.j) l.out;
    }
