-- The sums so far, and those of the bytes that are left, are the whole.
use Rattle.std.proofs.Common.{ℕ, length, min, max}
use Rattle.pciv_passes.specs.declared.extremes.TheConstants.{BLOCK}
use Rattle.pciv_passes.specs.Counts.{term_of}
use Rattle.pciv_passes.proofs.BlocksLaws.{Left}
use Rattle.pciv_passes.proofs.extremes.add_extremes.Given as goal

abbrev pub invariant-loop-x : goal.invariant-loop-x
invariant-loop-x l =
    record {
      least : Left (λ (x y : ℕ). term_of l.of (min x y)) BLOCK l.a l.b (length l.yielded) l.least;
      most : Left (λ (x y : ℕ). term_of l.of (max x y)) BLOCK l.a l.b (length l.yielded) l.most;
    }
