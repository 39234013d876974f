-- Writing all raised differences from 0 on is writing the rest from i on.
use Rattle.std.proofs.Common.{◌≡◌, ◌-◌}
use Rattle.std.proofs.lemmas.List.Edits.{sets}
use Rattle.pciv_bytes.specs.Ranges.{table}
use Rattle.pciv_bytes.specs.ByteAt.{byte_at}
use Rattle.pciv_arith_change.specs.Differences.{raised_at}
use Rattle.pciv_arith_change.proofs.raised_differences.Given as goal

abbrev pub invariant-loop-i : goal.invariant-loop-i
invariant-loop-i l =
    let f = raised_at (byte_at l.a) (byte_at l.b) l.from in
    sets l.fn.out 0 (table f 0 l.count) ≡ sets l.out l.i (table f l.i (l.count - l.i))
