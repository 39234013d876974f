-- Comparison figures of two maps (docs/FORMAT.md, "Comparison figures").
--   quotient p q           p / q as an f64: both made floats, then divided once; 0.0 where q is 0
--   distance_between xs ys  the sum of all |x - y|
--   bray_curtis_outcome      that, over the sum of all distances of both maps
--   count_at f t xs ys      how many slots have f of the two tests "at t or above"
--   jaccard_outcome t       slots at t or above in exactly one map, over those in either
-- Laws of the quotient are in proofs/QuotientLaws.antt. Axioms: none.
use Rattle.std.specs.Prelude.{Ok}
use Rattle.std.specs.Prelude.{ℕ, ◌+◌, ◌-◌, Bool, cond, ◌||◌, List, length, leb, eqb, pos, Float}
use Rattle.std.specs.Bool.{xor}
use Rattle.std.specs.Float.Ieee.{div, of_int, of_bits}
use Rattle.std.specs.Float.{binary64}
use Rattle.pciv_bytes.specs.Ranges.{flag, sum_from}
use Rattle.pciv_format.specs.Layout.{at}
use Rattle.pciv_format.specs.Refusals.{Outcome}
use Rattle.pciv_format.specs.Read.{list_of, total}
use Rattle.pciv_format.specs.Arith.{pair_outcome}

unfoldable pub quotient : ℕ → ℕ → Float
quotient p q = cond (eqb q 0) (of_bits binary64 0) (div binary64 (of_int binary64 (pos p)) (of_int binary64 (pos q)))

unfoldable pub distance_between : List ℕ → List ℕ → ℕ
distance_between xs ys = sum_from (λ (i : ℕ). (at xs i - at ys i) + (at ys i - at xs i)) 0 (length xs)

unfoldable pub bray_curtis_outcome : List ℕ → List ℕ → Outcome Float
bray_curtis_outcome a b =
    pair_outcome a b
    (λ n. Ok (quotient (distance_between (list_of a) (list_of b)) (total (list_of a) + total (list_of b))))

-- how many slots have f of the two tests "at t or above"
unfoldable pub count_at : (Bool → Bool → Bool) → ℕ → List ℕ → List ℕ → ℕ
count_at f t xs ys = sum_from (λ (i : ℕ). flag (f (leb t (at xs i)) (leb t (at ys i)))) 0 (length xs)

unfoldable pub jaccard_outcome : ℕ → List ℕ → List ℕ → Outcome Float
jaccard_outcome t a b =
    pair_outcome a b
    (λ n. Ok (quotient (count_at xor t (list_of a) (list_of b)) (count_at ◌||◌ t (list_of a) (list_of b))))
