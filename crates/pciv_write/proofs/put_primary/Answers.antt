-- Proves pciv_write::put_primary.
use Rattle.std.proofs.Common.{arith}
use Rattle.pciv_format.proofs.PrimaryLaws.{primary-start, primary-more, primary-end}
use Rattle.pciv_write.proofs.put_primary.Goals as goal

pub loop-i-init : goal.loop-i-init
loop-i-init c = primary-start _ _ _

pub loop-i-preserved : goal.loop-i-preserved
loop-i-preserved c = primary-more c.loop-i.invariant (omega arith) _ c.primary_byte.ensures

pub returns : goal.returns
returns c = primary-end c.loop-i.invariant (omega arith)
