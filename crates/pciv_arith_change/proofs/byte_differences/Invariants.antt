-- Writing all differences from 0 on is writing the rest from i on. Falls: length a - i.
use Rattle.std.proofs.Common.{◌≡◌, ◌-◌, ◌≤◌, length}
use Rattle.std.proofs.lemmas.List.Edits.{sets}
use Rattle.pciv_bytes.specs.Ranges.{table}
use Rattle.pciv_bytes.specs.ByteAt.{byte_at}
use Rattle.pciv_arith_change.specs.Differences.{difference_at}
use Rattle.pciv_arith_change.proofs.byte_differences.Given as goal

abbrev pub invariant-loop-i : goal.invariant-loop-i
invariant-loop-i l =
    let f = difference_at (byte_at l.a) (byte_at l.b) in
    record {
      inside : l.i ≤ length l.a;
      rest : sets l.fn.out 0 (table f 0 (length l.a)) ≡ sets l.out l.i (table f l.i (length l.a - l.i));
    }

abbrev pub decreases-loop-i : goal.decreases-loop-i
decreases-loop-i l = length l.a - l.i
