-- Writing all of src is writing the rest of src from i on.
use Rattle.std.proofs.Common.{◌≡◌, ◌+◌, drop}
use Rattle.std.proofs.lemmas.List.Edits.{sets}
use Rattle.pciv_bytes.proofs.copies.copy_bytes.Given as goal

abbrev pub invariant-loop-i : goal.invariant-loop-i
invariant-loop-i l = sets l.fn.out l.at l.src ≡ sets l.out (l.at + l.i) (drop l.i l.src)
