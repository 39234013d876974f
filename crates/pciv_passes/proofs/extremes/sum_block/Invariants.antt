use Rattle.pciv_passes.specs.Extremes.{ExtremeSums}
use Rattle.pciv_passes.specs.declared.counts.Term.TheVariants.{Byte}
use Rattle.pciv_passes.proofs.extremes.sum_block.Given as goal

abbrev pub invariant-loop-i : goal.invariant-loop-i
invariant-loop-i l = ExtremeSums Byte l.a l.b 0 l.i l.least l.most
