-- The numbers from d on are left to write.
use Rattle.std.proofs.Common.{ℕ, ◌*◌}
use Rattle.pciv_bytes.proofs.WriteLaws.{Left}
use Rattle.pciv_format.specs.Layout.{at}
use Rattle.pciv_disparity.proofs.front.high_bytes.Given as goal

abbrev pub invariant-loop-d : goal.invariant-loop-d
invariant-loop-d l = Left (λ (j : ℕ). 256 * at l.bytes j) 256 l.initial.high l.high l.d
