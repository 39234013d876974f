-- Proves pciv_bits::flags::ones.
use Rattle.std.proofs.Common.{arith}
use Rattle.pciv_bits.proofs.WordLaws.{ones_shr}
use Rattle.pciv_bits.proofs.flags.ones.Goals as goal

pub returns : goal.returns
returns c = ones_shr c.args.c (omega arith)
