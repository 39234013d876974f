-- Proves pciv_mask_bytes::bits::bit_of.
use Rattle.pciv_format.proofs.MaskLaws.{bit-of-word}
use Rattle.pciv_mask_bytes.proofs.bits.bit_of.Goals as goal

pub returns : goal.returns
returns c = bit-of-word c.args.words.now c.args.slot
