-- Invariants of pciv_bits::masks::count_bits: the bits of the words before this one are counted, at most 64 for each.
use Rattle.std.proofs.Common.{ℕ, ◌*◌, ◌≤◌, length}
use Rattle.pciv_bytes.specs.Ranges.{flag, sum_from}
use Rattle.pciv_bytes.proofs.SumLaws.{Added}
use Rattle.pciv_format.specs.Mask.{mask_has}
use Rattle.pciv_bits.proofs.masks.count_bits.Given as goal

abbrev pub invariant-loop-word : goal.invariant-loop-word
invariant-loop-word l =
    record {
      few : l.sum ≤ 64 * l.word-index;
      added : Added (λ (i : ℕ). flag (mask_has l.words i)) (64 * length l.words)
          (sum_from (λ (i : ℕ). flag (mask_has l.words i)) 0 (64 * length l.words)) (64 * l.word-index) l.sum;
    }
