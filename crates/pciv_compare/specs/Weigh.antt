-- What distances weigh, and the smaller and the larger ones of two maps.
--   weight_of w x       the weight of a distance x: x itself, or 1 where it is t or more
--   beyond_of w x       what x weighs more than the byte 255;  Late w  it is 0 for what a byte can tell
--   shared_at A B j     the smaller distance at the slot of entry j of A
--   over m f u v n     the sum of f of m of u i and v i, for all i below n
--   Weighed f u v n r  r has that of the smaller and of the larger of the two
-- Laws are in proofs/WeighLaws.antt. Axioms: none.
use Rattle.std.specs.Prelude.{◌≡◌, ℕ, ◌-◌, ◌≤◌, min, max, leb}
use Rattle.pciv_bytes.specs.Ranges.{flag, sum_from}
use Rattle.pciv_passes.specs.declared.extremes.Extremes.{Extremes}
use Rattle.pciv_format.specs.Parts.{Parts, value_of}
use Rattle.pciv_compare.specs.declared.weigh.Weight.{Weight}
use Rattle.pciv_compare.specs.declared.weigh.Weight.TheVariants.{Distance, From}

abbrev pub weight_of : Weight → ℕ → ℕ
weight_of Distance x = x
weight_of (From t) x = flag (leb t x)

abbrev pub beyond_of : Weight → ℕ → ℕ
beyond_of Distance x = x - 255
beyond_of (From t) x = flag (leb t x)

abbrev pub Late : Weight → Type 0
Late w = (x : ℕ) → x ≤ 255 → beyond_of w x ≡ 0

abbrev pub shared_at : Parts → Parts → ℕ → ℕ
shared_at A B j = min (A.distance j) (value_of B (A.slot j))

abbrev pub over : (ℕ → ℕ → ℕ) → (ℕ → ℕ) → (ℕ → ℕ) → (ℕ → ℕ) → ℕ → ℕ
over m f u v n = sum_from (λ (i : ℕ). f (m (u i) (v i))) 0 n

pub record Weighed (f u v : ℕ → ℕ) (n : ℕ) (r : Extremes) : Type 0 where
  pub least : r.least ≡ over min f u v n
  pub most : r.most ≡ over max f u v n
