-- Whether some number of a range has a property.
--   any_from p i c    one of the c numbers from i on has p
-- Laws are in proofs/AnyLaws.antt. Axioms: none.
use Rattle.std.specs.Prelude.{ℕ, zero, suc, Bool, false, ◌||◌}

unfoldable pub any_from : (ℕ → Bool) → ℕ → ℕ → Bool
any_from p i zero = false
any_from p i (suc c) = p i || any_from p (suc i) c
