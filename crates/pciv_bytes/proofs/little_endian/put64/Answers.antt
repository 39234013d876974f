use Rattle.std.proofs.Common.{arith, ◌∙◌}
use Rattle.pciv_bytes.specs.LittleEndian.{le}
use Rattle.pciv_bytes.proofs.LittleEndianLaws.{le-bytes, length-le}
use Rattle.pciv_bytes.proofs.WriteLaws.{put_mid-sets}
use Rattle.pciv_bytes.proofs.little_endian.put64.Goals as goal

pub returns : goal.returns
returns c =
    rw (c.copy_from_slice.ensures.after ∙ c.to_le_bytes.ensures ∙ le-bytes 8 c.args.x)
    (put_mid-sets c.args.at _ c.args.out.now (le 8 c.args.x) (length-le 8 c.args.x ∙ omega arith) (omega arith))
