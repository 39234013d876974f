-- Proves pciv_report::put_report, a case of the text at each return.
use Rattle.std.proofs.Common.{sym}
use Rattle.pciv_format.proofs.ReportLaws.{report_text-long, report_text-refused}
use Rattle.pciv_report.proofs.TextLaws.{report_text-done}
use Rattle.pciv_report.proofs.put_report.Goals as goal

pub returns-then-is_long-clause-text : goal.returns-then-is_long-clause-text
returns-then-is_long-clause-text c =
    rw (report_text-long c.args.input.now c.if-is_long.true) c.put_refusal.ensures.text

pub returns-in-Ok-clause-text : goal.returns-in-Ok-clause-text
returns-in-Ok-clause-text c =
    let s = c.in-Ok.s in
    let input = c.args.input.now in
    let text = report_text-done input s c.if-is_long.false (sym c.in-Ok.ensures.answer) _ c.readings.ensures.answer in
    rw (text, ← c.unwrap_or.ensures) c.put_map.ensures.text

pub returns-in-Err-clause-text : goal.returns-in-Err-clause-text
returns-in-Err-clause-text c =
    rw (report_text-refused c.args.input.now c.in-Err.r c.if-is_long.false (sym c.in-Err.ensures.answer))
    c.put_refusal-in-Err.ensures.text
