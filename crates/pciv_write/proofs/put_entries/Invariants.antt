-- The entries of the slots from some slot on are left.
use Rattle.std.proofs.Common.{ℕ, ◌+◌, ◌*◌, length}
use Rattle.pciv_format.specs.Layout.{at}
use Rattle.pciv_build.proofs.FillLaws.{Filling}
use Rattle.pciv_write.proofs.put_entries.Given as goal

abbrev pub invariant-loop-j : goal.invariant-loop-j
invariant-loop-j l =
    (from : ℕ) × Filling (length l.distances) (at l.distances) l.initial.out from l.out (l.start + 12 * l.j)
