-- The entries below j are judged, and those kept are counted.
use Rattle.std.proofs.Common.{◌≡◌}
use Rattle.pciv_format.specs.Check.{file_parts}
use Rattle.pciv_repair_file.proofs.WalkLaws.{Judged, kept_count}
use Rattle.pciv_repair_file.proofs.kept.count_kept.Given as goal

abbrev pub invariant-loop-j : goal.invariant-loop-j
invariant-loop-j l = record {
  judged : Judged (file_parts l.file l.n l.k) l.j l.lowest;
  counted : l.kept ≡ kept_count (file_parts l.file l.n l.k) l.j;
}
