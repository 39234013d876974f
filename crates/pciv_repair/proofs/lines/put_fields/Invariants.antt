-- The fields from i on are left to list. The list reasoning is in LinesLaws.antt.
use Rattle.pciv_bytes.specs.Ranges.{positions}
use Rattle.pciv_repair.specs.Repair.{field_line, other_field}
use Rattle.pciv_repair.proofs.LinesLaws.{Listing}
use Rattle.pciv_repair.proofs.lines.put_fields.Given as goal

abbrev pub invariant-loop-i : goal.invariant-loop-i
invariant-loop-i l =
    let other = other_field l.file l.new in
    Listing (field_line l.file l.new) other 6 (positions other 0 6) 0 l.initial.list l.i l.line l.list
