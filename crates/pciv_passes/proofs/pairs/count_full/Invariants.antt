-- The count so far, and that of the bytes that are left, are the whole.
use Rattle.std.proofs.Common.{ℕ, length, eqb}
use Rattle.pciv_bytes.specs.Ranges.{flag}
use Rattle.pciv_passes.specs.declared.pairs.TheConstants.{BLOCK}
use Rattle.pciv_passes.specs.Pairs.{byte_op}
use Rattle.pciv_passes.proofs.BlocksLaws.{Left}
use Rattle.pciv_passes.proofs.pairs.count_full.Given as goal

abbrev pub invariant-loop-x : goal.invariant-loop-x
invariant-loop-x l = Left (λ (x y : ℕ). flag (eqb (byte_op l.op x y) 255)) BLOCK l.a l.b (length l.yielded) l.sum
