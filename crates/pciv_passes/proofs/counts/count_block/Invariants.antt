use Rattle.std.proofs.Common.{◌≡◌}
use Rattle.pciv_bytes.specs.Ranges.{sum_from}
use Rattle.pciv_passes.specs.Counts.{test_at}
use Rattle.pciv_passes.proofs.counts.count_block.Given as goal

abbrev pub invariant-loop-x : goal.invariant-loop-x
invariant-loop-x l = l.sum ≡ sum_from (test_at l.test l.block) 0 l.x-index
