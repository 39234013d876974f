-- The entries below j are judged; the bytes below the least slot that entry j may have are final, the others lowered.
use Rattle.std.proofs.Common.{◌≡◌}
use Rattle.std.proofs.lemmas.List.Edits.{sets}
use Rattle.pciv_bytes.specs.Ranges.{table}
use Rattle.pciv_format.specs.Check.{file_parts}
use Rattle.pciv_repair_file.proofs.WalkLaws.{Judged}
use Rattle.pciv_repair_file.proofs.LoweredLaws.{lowered}
use Rattle.pciv_repair_file.proofs.put_lowered.Given as goal

abbrev pub invariant-loop-j : goal.invariant-loop-j
invariant-loop-j l = record {
  judged : Judged (file_parts l.file l.n l.k) l.j l.lowest;
  put : l.out ≡ sets l.initial.out 40 (table (lowered (file_parts l.file l.n l.k) l.lowest) 0 l.n);
}
