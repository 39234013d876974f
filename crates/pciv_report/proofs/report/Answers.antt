-- Proves pciv_report::report: the front of the text is the report.
use Rattle.std.proofs.Common.{arith}
use Rattle.pciv_format.specs.Report.{report_outcome, report_buffer}
use Rattle.pciv_report.proofs.TextLaws.{put_front}
use Rattle.pciv_report.proofs.report.Goals as goal

pub returns : goal.returns
unfolding report_outcome report_buffer
returns c =
    let front = put_front c.put_report-len.ensures.text (omega arith) in
    record { answer = rw front at c.deliver.ensures.answer; buffer = rw front at c.deliver.ensures.buffer }
