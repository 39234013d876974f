-- The entries from j on are left to judge, and `lowest` is the least slot that entry j may have. The list reasoning is
-- in LinesLaws.antt.
use Rattle.std.proofs.Common.{◌≡◌, ℕ, not}
use Rattle.pciv_bytes.specs.Ranges.{positions}
use Rattle.pciv_format.specs.Check.{file_parts}
use Rattle.pciv_repair_file.specs.Repaired.{lowest_kept, is_kept}
use Rattle.pciv_repair.specs.Repair.{dropped_line}
use Rattle.pciv_repair.proofs.LinesLaws.{Listing}
use Rattle.pciv_repair.proofs.lines.put_dropped.Given as goal

abbrev pub invariant-loop-j : goal.invariant-loop-j
invariant-loop-j l =
    let P = file_parts l.file l.n l.k in
    let drop = λ (t : ℕ). not (is_kept P t) in
    record {
      listing : Listing (dropped_line l.file l.n l.k) drop l.k (positions drop 0 l.k) l.from l.initial.list l.j l.line l.list;
      lowest_is : l.lowest ≡ lowest_kept P l.j;
    }
