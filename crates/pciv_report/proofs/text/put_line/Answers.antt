-- Proves pciv_report::text::put_line: the field, then the line's end.
use Rattle.pciv_format.specs.Report.{line}
use Rattle.pciv_report.proofs.TextLaws.{put_then}
use Rattle.pciv_report.proofs.text.put_line.Goals as goal

pub returns-clause-text : goal.returns-clause-text
unfolding line
returns-clause-text c = put_then c.put_field-at.ensures.text c.put_byte.ensures
