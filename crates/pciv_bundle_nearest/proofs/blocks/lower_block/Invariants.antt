-- The loop of lower_block: the first i bytes are lowered.
use Rattle.std.proofs.Common.{ℕ}
use Rattle.pciv_format.specs.Layout.{at}
use Rattle.pciv_bundle_nearest.specs.Passes.{lowered_byte, Changed}
use Rattle.pciv_bundle_nearest.proofs.blocks.lower_block.Given as goal

abbrev pub invariant-loop-i : goal.invariant-loop-i
invariant-loop-i l = Changed (λ (t m : ℕ). lowered_byte m (at l.bytes t)) l.i l.initial.least l.least
