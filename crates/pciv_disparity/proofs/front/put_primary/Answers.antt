-- Proves pciv_disparity::front::put_primary.
use Rattle.std.proofs.Common.{ℕ, ◌+◌, ap, ◌∙◌, arith}
use Rattle.std.proofs.lemmas.List.Edits.{sets}
use Rattle.pciv_bytes.specs.LittleEndian.{le}
use Rattle.pciv_format.proofs.PrimaryLaws.{primary-start, primary-more, primary-end}
use Rattle.pciv_disparity.proofs.FrameLaws.{byte-is, primary-pair}
use Rattle.pciv_disparity.proofs.front.put_primary.Goals as goal

pub loop-i-init : goal.loop-i-init
loop-i-init c = primary-start _ _ _

pub put16-requires : goal.put16-requires
put16-requires c = omega (arith, c.loop-i.invariant.size, c.requires.frame_in_bounds)

pub loop-i-preserved : goal.loop-i-preserved
loop-i-preserved c =
    primary-pair c.loop-i.invariant (omega arith) (c.requires.bytes _) (c.requires.bytes _) _
    (c.put16.ensures ∙ ap (λ (x : ℕ). sets c.loop-i.out (40 + c.loop-i.i) (le 2 x)) c.byte_pair.ensures)

pub returns-then-i-n : goal.returns-then-i-n
returns-then-i-n c =
    primary-end (primary-more c.loop-i.invariant c.if-i-n.true _ (byte-is _ (c.requires.bytes _))) (omega arith)

pub returns-else-i-n : goal.returns-else-i-n
returns-else-i-n c = primary-end c.loop-i.invariant (omega arith)
