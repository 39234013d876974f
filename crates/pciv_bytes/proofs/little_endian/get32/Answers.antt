use Rattle.std.proofs.Common.{arith}
use Rattle.pciv_bytes.proofs.LittleEndianLaws.{get-lt}
use Rattle.pciv_bytes.proofs.little_endian.get32.Goals as goal

-- four bytes fit 32 bits
pub overflow_cast-result : goal.overflow_cast-result
overflow_cast-result c = omega (arith, get-lt 4 c.args.b.now c.args.at (λ j. (c.type_inv.b j).fits))
