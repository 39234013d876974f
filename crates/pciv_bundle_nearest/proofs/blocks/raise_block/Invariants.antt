-- The loop of raise_block: writing all distances from `start` on is writing the rest of them from start + i on.
use Rattle.std.proofs.Common.{◌≡◌, ℕ, ◌+◌, ◌-◌}
use lib.Seq.{sets}
use Rattle.pciv_bytes.specs.Ranges.{table}
use Rattle.pciv_format.specs.Layout.{at}
use Rattle.pciv_bundle_nearest.specs.Passes.{raised_byte}
use Rattle.pciv_bundle_nearest.proofs.blocks.raise_block.Given as goal

abbrev pub invariant-loop-i : goal.invariant-loop-i
invariant-loop-i l =
    sets l.initial.out l.start (table (λ (i : ℕ). raised_byte (at l.least i)) 0 l.len)
    ≡ sets l.out (l.start + l.i) (table (λ (i : ℕ). raised_byte (at l.least i)) l.i (l.len - l.i))
