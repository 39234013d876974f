-- A shift as a direction and how far.
--   direction_of d    down by -d where d is negative, else up by d
-- Axioms: none.
use Rattle.std.specs.Prelude.{suc, ℤ, pos, negsuc}
use Rattle.pciv_arith.specs.declared.Direction.{Direction}
use Rattle.pciv_arith.specs.declared.Direction.TheVariants.{Down, Up}

abbrev pub direction_of : ℤ → Direction
direction_of (pos m) = Up m
direction_of (negsuc m) = Down (suc m)
