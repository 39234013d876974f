-- The entries below j are judged, `entry` of them are kept, and the index entries below i, which are all that those have,
-- are right.
use Rattle.pciv_repair_file.proofs.IndexLaws.{Comparing}
use Rattle.pciv_repair_file.proofs.index.same_entries.Given as goal

abbrev pub invariant-loop-j : goal.invariant-loop-j
invariant-loop-j l = Comparing l.file l.n l.k l.i l.entry l.lowest l.j
