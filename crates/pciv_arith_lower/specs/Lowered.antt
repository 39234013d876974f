-- A map whose non-zero distances are lowered by one number.
--   lowered m x        a distance lowered by m: a zero distance stays, another one is at least 1 afterwards
--   lowered_at P m i    the distance of the result at slot i
-- Axioms: none.
use Rattle.std.specs.Prelude.{ℕ, ◌-◌, min, max}
use Rattle.pciv_format.specs.Parts.{Parts, value_of}

abbrev pub lowered : ℕ → ℕ → ℕ
lowered m x = max (x - m) (min x 1)

abbrev pub lowered_at : Parts → ℕ → ℕ → ℕ
lowered_at P m i = lowered m (value_of P i)
