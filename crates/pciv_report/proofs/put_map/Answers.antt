-- Proves pciv_report::put_map: the six lines, one after another.
use Rattle.pciv_format.specs.Report.{map_lines}
use Rattle.pciv_report.proofs.TextLaws.{put_then}
use Rattle.pciv_report.proofs.put_map.Goals as goal

pub returns-clause-text : goal.returns-clause-text
unfolding map_lines
returns-clause-text c =
    put_then c.put_line-at.ensures.text
    (put_then c.put_line-at-2.ensures.text
    (put_then c.put_line-at-3.ensures.text
    (put_then c.put_line-at-4.ensures.text (put_then c.put_line-at-5.ensures.text c.put_line.ensures.text))))
