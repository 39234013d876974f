-- Proves pciv_disparity::front::primary_bytes.
use Rattle.std.proofs.Common.{ℕ, sym, ◌∙◌, arith}
use Rattle.std.proofs.lemmas.List.{length-replicate}
use Rattle.pciv_bytes.proofs.WriteLaws.{left-start, left-more, left-whole}
use Rattle.pciv_disparity.proofs.FrameLaws.{bytes_of-is}
use Rattle.pciv_disparity.proofs.front.primary_bytes.Goals as goal

pub loop-d-init : goal.loop-d-init
loop-d-init c = left-start _ 256 _

pub loop-d-preserved : goal.loop-d-preserved
loop-d-preserved c = left-more c.loop-d.invariant _ (omega arith) c.primary_byte.ensures

pub returns : goal.returns
returns c =
    left-whole c.loop-d.invariant (omega arith) (length-replicate {A = ℕ} 256 0) ∙ sym (bytes_of-is c.args.table.now)
