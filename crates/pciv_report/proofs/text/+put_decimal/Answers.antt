-- The last digit is written behind those of x / 10.
use Rattle.std.proofs.Common.{length, ap, arith}
use Rattle.pciv_format.proofs.ReportLaws.{decimal-small, decimal-large, length-decimal-large}
use Rattle.pciv_report.proofs.TextLaws.{put_then, put-length}
use Rattle.pciv_report.proofs.text.+put_decimal.Goals as goal

pub put_byte-requires : goal.put_byte-requires
put_byte-requires t c = omega (arith, ap length (decimal-small c.args.x (omega arith)))

pub put_decimal-at-requires : goal.put_decimal-at-requires
put_decimal-at-requires t c =
    (omega arith, omega (arith, length-decimal-large c.args.x (omega arith) (omega arith)))

pub put_byte-requires-else-is_last : goal.put_byte-requires-else-is_last
put_byte-requires-else-is_last t c =
    let kept = put-length c.put_decimal-at.ensures in
    omega (arith, length-decimal-large c.args.x (omega arith) (omega arith))

pub returns-then-is_last : goal.returns-then-is_last
returns-then-is_last t c = rw (decimal-small c.args.x (omega arith)) c.put_byte.ensures

pub returns-else-is_last : goal.returns-else-is_last
returns-else-is_last t c =
    let both = put_then c.put_decimal-at.ensures c.put_byte-else-is_last.ensures in
    rw (decimal-large c.args.x (omega arith) (omega arith)) both
