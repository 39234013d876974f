-- Writing all results from `at` on is writing the rest of them from at + i on.
use Rattle.std.proofs.Common.{◌≡◌, ◌+◌, ◌-◌, length}
use Rattle.std.proofs.lemmas.List.Edits.{sets}
use Rattle.pciv_bytes.specs.Ranges.{table}
use Rattle.pciv_passes.specs.Pairs.{one_at}
use Rattle.pciv_passes.proofs.pairs.map_into.Given as goal

abbrev pub invariant-loop-i : goal.invariant-loop-i
invariant-loop-i l =
    sets l.fn.out l.at (table (one_at l.op l.a l.x) 0 (length l.a)) ≡ sets l.out (l.at + l.i) (table (one_at l.op l.a l.x) l.i (length l.a - l.i))
