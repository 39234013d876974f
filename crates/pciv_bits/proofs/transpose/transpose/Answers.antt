-- Proves pciv_bits::transpose::transpose.
use Rattle.pciv_bits.proofs.TransposeLaws.{transpose-bit}
use Rattle.pciv_bits.proofs.transpose.transpose.Goals as goal

pub returns : goal.returns
returns c = transpose-bit c.args.x
