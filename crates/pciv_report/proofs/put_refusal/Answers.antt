-- Proves pciv_report::put_refusal: the three fields, one after another.
use Rattle.pciv_format.proofs.ReportLaws.{refused_line-parts}
use Rattle.pciv_report.proofs.TextLaws.{put_then}
use Rattle.pciv_report.proofs.put_refusal.Goals as goal

pub returns-clause-text : goal.returns-clause-text
returns-clause-text c =
    rw (refused_line-parts c.args.r, ← c.from.ensures)
    (put_then c.put_field-at.ensures.text (put_then c.put_field-at-2.ensures.text c.put_line.ensures.text))
