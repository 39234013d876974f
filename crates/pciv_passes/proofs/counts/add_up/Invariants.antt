-- The sum so far, and that of the bytes that are left, are the whole.
use Rattle.std.proofs.Common.{ℕ}
use Rattle.pciv_passes.specs.declared.counts.TheConstants.{BLOCK}
use Rattle.pciv_passes.specs.Counts.{term_of}
use Rattle.pciv_passes.proofs.BlocksLaws.{Left}
use Rattle.pciv_passes.proofs.counts.add_up.Given as goal

abbrev pub invariant-loop-block : goal.invariant-loop-block
invariant-loop-block l = Left (λ (x y : ℕ). term_of l.of x) BLOCK l.a l.a l.block-index l.sum
