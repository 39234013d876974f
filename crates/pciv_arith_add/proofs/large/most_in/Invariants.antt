use Rattle.pciv_format.specs.Check.{file_parts}
use Rattle.pciv_arith_add.proofs.LargeLaws.{MostOf}
use Rattle.pciv_arith_add.proofs.large.most_in.Given as goal

abbrev pub invariant-loop-j : goal.invariant-loop-j
invariant-loop-j l = MostOf (file_parts l.file l.n l.k) l.j l.most
