-- Writing all differences from `at` on is writing the rest from at + i on.
use Rattle.std.proofs.Common.{◌≡◌, ◌+◌, ◌-◌}
use Rattle.std.proofs.lemmas.List.Edits.{sets}
use Rattle.pciv_bytes.specs.Ranges.{table}
use Rattle.pciv_arith_change.specs.Differences.{lowered_at}
use Rattle.pciv_arith_change.proofs.lower.Given as goal

abbrev pub invariant-loop-i : goal.invariant-loop-i
invariant-loop-i l =
    let f = lowered_at l.raised in
    sets l.fn.out l.at (table f 0 l.count) ≡ sets l.out (l.at + l.i) (table f l.i (l.count - l.i))
