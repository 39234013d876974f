-- Proves pciv_mask_logic::zip_words.
use Rattle.pciv_bytes.proofs.WriteLaws.{left-more, left_end}
use Rattle.pciv_mask_logic.proofs.zip_words.Goals as goal

pub loop-i-preserved : goal.loop-i-preserved
loop-i-preserved c = left-more c.loop-i.invariant c.bit_op.result c.loop-i-test.true c.bit_op.ensures

pub returns : goal.returns
returns c = left_end c.loop-i.invariant c.loop-i-test.false
