use Rattle.std.proofs.Common.{◌≡◌}
use Rattle.pciv_bytes.specs.Ranges.{sum_from}
use Rattle.pciv_passes.specs.Pairs.{full_at}
use Rattle.pciv_passes.proofs.pairs.count_full_block.Given as goal

abbrev pub invariant-loop-i : goal.invariant-loop-i
invariant-loop-i l = l.sum ≡ sum_from (full_at l.op l.a l.b) 0 l.i
