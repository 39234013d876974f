use Rattle.std.proofs.Common.{arith, sym}
use Rattle.pciv_bytes.proofs.LittleEndianLaws.{get-zero, get-more}
use Rattle.pciv_bytes.proofs.little_endian.get_le.Goals as goal

pub loop-i-init : goal.loop-i-init
loop-i-init c = sym (get-zero _ _)

pub loop-i-preserved : goal.loop-i-preserved
loop-i-preserved c =
    rw (c.from.ensures, c.loop-i.invariant)
    (get-more c.loop-i.i c.args.b.now c.args.at (λ j. (c.type_inv.b j).fits) (omega arith) (omega arith))
