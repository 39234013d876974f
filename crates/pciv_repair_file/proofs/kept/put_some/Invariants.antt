-- The entries below j are judged, and those kept are written.
use Rattle.std.proofs.Common.{◌+◌}
use Rattle.pciv_format.specs.Check.{file_parts}
use Rattle.pciv_repair_file.proofs.WalkLaws.{Judged}
use Rattle.pciv_repair_file.proofs.PutLaws.{Putting}
use Rattle.pciv_repair_file.proofs.kept.put_some.Given as goal

abbrev pub invariant-loop-j : goal.invariant-loop-j
invariant-loop-j l = record {
  judged : Judged (file_parts l.file l.n l.k) l.j l.lowest;
  putting : Putting (file_parts l.file l.n l.k) (40 + l.n) l.initial.out l.j l.place l.out;
}
