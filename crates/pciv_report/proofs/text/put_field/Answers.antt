-- Proves pciv_report::text::put_field: the three pieces, one after another.
use Rattle.std.proofs.Common.{arith}
use Rattle.pciv_format.specs.Report.{field}
use Rattle.pciv_format.proofs.ReportLaws.{length-decimal-le}
use Rattle.pciv_report.proofs.TextLaws.{put_then}
use Rattle.pciv_report.proofs.text.put_field.Goals as goal

pub put_decimal-requires : goal.put_decimal-requires
put_decimal-requires c = omega (arith, length-decimal-le)

pub returns-clause-text : goal.returns-clause-text
unfolding field
returns-clause-text c = put_then c.put_word-at.ensures (put_then c.put_byte-at.ensures c.put_decimal.ensures)

pub returns-clause-most : goal.returns-clause-most
returns-clause-most c = omega (arith, length-decimal-le)
