-- Writing all of a is writing the rest of a from i on.
use Rattle.std.proofs.Common.{◌≡◌, drop}
use Rattle.std.proofs.lemmas.List.Edits.{sets}
use Rattle.pciv_bytes.proofs.copies.widen.Given as goal

abbrev pub invariant-loop-i : goal.invariant-loop-i
invariant-loop-i l = sets l.fn.out 0 l.a ≡ sets l.out l.i (drop l.i l.a)
