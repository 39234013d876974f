-- The bytes of the entries from d on are left to write.
use Rattle.std.proofs.Common.{ℕ}
use Rattle.pciv_bytes.proofs.WriteLaws.{Left}
use Rattle.pciv_format.specs.Layout.{primary_byte, at}
use Rattle.pciv_disparity.proofs.front.primary_bytes.Given as goal

abbrev pub invariant-loop-d : goal.invariant-loop-d
invariant-loop-d l = Left (λ (j : ℕ). primary_byte (at l.table j)) 256 l.initial.bytes l.bytes l.d
