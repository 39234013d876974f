-- The bytes of the slots from i on are left to write.
use Rattle.std.proofs.Common.{length}
use Rattle.pciv_format.specs.Layout.{at}
use Rattle.pciv_format.proofs.PrimaryLaws.{PrimaryLeft}
use Rattle.pciv_write.proofs.put_primary.Given as goal

abbrev pub invariant-loop-i : goal.invariant-loop-i
invariant-loop-i l = PrimaryLeft (length l.distances) (at l.distances) l.initial.out l.i l.out
