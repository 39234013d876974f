use Rattle.std.proofs.Common.{◌-◌}
use Rattle.pciv_format.specs.Check.{file_parts}
use Rattle.pciv_arith_add.proofs.LargeLaws.{Walked}
use Rattle.pciv_arith_add.proofs.large.walk_large.Given as goal

abbrev pub invariant-loop-slot : goal.invariant-loop-slot
invariant-loop-slot l = Walked l.of (file_parts l.a l.n l.ka) (file_parts l.b l.n l.kb) l.j l.t l.slot

abbrev pub decreases-loop-slot : goal.decreases-loop-slot
decreases-loop-slot l = l.n - l.slot
