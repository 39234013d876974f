-- Writing all cells is writing the rest of them from j on.
use Rattle.std.proofs.Common.{◌≡◌, ◌+◌, drop}
use Rattle.std.proofs.lemmas.List.Edits.{sets}
use Rattle.pciv_edit.proofs.run.put_cells.Given as goal

abbrev pub invariant-loop-j : goal.invariant-loop-j
invariant-loop-j l = sets l.fn.answers l.at l.cells ≡ sets l.answers (l.at + l.j) (drop l.j l.cells)
