-- The entries of the slots behind the cursor are left.
use Rattle.std.proofs.Common.{◌-◌}
use Rattle.pciv_format.specs.Check.{file_parts}
use Rattle.pciv_mask_increment.proofs.RaisedLaws.{Raising}
use Rattle.pciv_mask_increment.proofs.put_incremented.Given as goal

abbrev pub invariant-loop-at : goal.invariant-loop-at
invariant-loop-at l = Raising (file_parts l.file l.n l.k) l.words l.initial.out l.out l.at l.j

abbrev pub decreases-loop-at : goal.decreases-loop-at
decreases-loop-at l = l.end - l.at
