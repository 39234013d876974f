-- Invariants of pciv_build::finish: the index entries from i on are left to write, and what stands before the index is
-- unchanged.
use Rattle.pciv_build.proofs.IndexLaws.{IndexLeft}
use Rattle.pciv_build.proofs.finish.Given as goal

abbrev pub invariant-loop-i : goal.invariant-loop-i
invariant-loop-i l = IndexLeft l.n l.k l.fn.out l.i l.out
