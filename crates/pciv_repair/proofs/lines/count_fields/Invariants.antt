-- The fields from i on are left to count.
use Rattle.std.proofs.Common.{ℕ}
use Rattle.pciv_bytes.specs.Ranges.{flag, sum_from}
use Rattle.pciv_bytes.proofs.SumLaws.{Added}
use Rattle.pciv_repair.specs.Repair.{other_field}
use Rattle.pciv_repair.proofs.lines.count_fields.Given as goal

abbrev pub invariant-loop-i : goal.invariant-loop-i
invariant-loop-i l =
    let other = λ (j : ℕ). flag (other_field l.file l.new j) in
    Added other 6 (sum_from other 0 6) l.i l.count
