-- The slots from `start` on are left to list. The list reasoning is in LinesLaws.antt. Falls: n - start.
use Rattle.std.proofs.Common.{◌-◌}
use Rattle.pciv_bytes.specs.Ranges.{positions}
use Rattle.pciv_repair.specs.Repair.{set_line, was_set}
use Rattle.pciv_repair.proofs.LinesLaws.{Listing}
use Rattle.pciv_repair.proofs.lines.put_set.Given as goal

abbrev pub invariant-loop-start : goal.invariant-loop-start
invariant-loop-start l =
    let set = was_set l.file l.new in
    Listing set_line set l.n (positions set 0 l.n) l.from l.initial.list l.start l.line l.list

abbrev pub decreases-loop-start : goal.decreases-loop-start
decreases-loop-start l = l.n - l.start
