-- The entries from d on are left to write.
use Rattle.pciv_bytes.proofs.WriteLaws.{Left}
use Rattle.pciv_disparity.specs.Disparity.{disparity_distance}
use Rattle.pciv_disparity.proofs.fill_table.Given as goal

abbrev pub invariant-loop-d : goal.invariant-loop-d
invariant-loop-d l = Left (disparity_distance l.constant) 256 l.initial.table l.table l.d
