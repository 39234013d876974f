-- The slots from `slot` on are left to list. The list reasoning is in LinesLaws.antt.
use Rattle.std.proofs.Common.{◌-◌}
use Rattle.pciv_bytes.specs.Ranges.{positions}
use Rattle.pciv_repair.specs.Repair.{set_line, was_set}
use Rattle.pciv_repair.proofs.LinesLaws.{Listing}
use Rattle.pciv_repair.proofs.lines.put_block.Given as goal

abbrev pub invariant-loop-slot : goal.invariant-loop-slot
invariant-loop-slot l =
    let set = was_set l.file l.new in
    Listing set_line set l.to (positions set l.start (l.to - l.start)) l.from l.initial.list l.slot l.line l.list
