-- A figure by its weight.
--   figure_outcome w a b                       the outcome: Bray-Curtis, or Jaccard at t
--   numerator_of w xs ys, denominator_of w xs ys    what is divided by what, of two lists
--   divisor_of w l m        the latter, where all smaller distances weigh l and all larger ones m
-- Laws are in proofs/FigureLaws.antt. Axioms: none.
use Rattle.std.specs.Prelude.{ℕ, ◌+◌, ◌||◌, List, Float}
use Rattle.std.specs.Bool.{xor}
use Rattle.pciv_format.specs.Refusals.{Outcome}
use Rattle.pciv_format.specs.Read.{total}
use Rattle.pciv_format.specs.Figures.{distance_between, bray_curtis_outcome, count_at, jaccard_outcome}
use Rattle.pciv_compare.specs.declared.weigh.Weight.{Weight}
use Rattle.pciv_compare.specs.declared.weigh.Weight.TheVariants.{Distance, From}

abbrev pub figure_outcome : Weight → List ℕ → List ℕ → Outcome Float
figure_outcome Distance a b = bray_curtis_outcome a b
figure_outcome (From t) a b = jaccard_outcome t a b

abbrev pub numerator_of : Weight → List ℕ → List ℕ → ℕ
numerator_of Distance xs ys = distance_between xs ys
numerator_of (From t) xs ys = count_at xor t xs ys

abbrev pub denominator_of : Weight → List ℕ → List ℕ → ℕ
denominator_of Distance xs ys = total xs + total ys
denominator_of (From t) xs ys = count_at ◌||◌ t xs ys

abbrev pub divisor_of : Weight → ℕ → ℕ → ℕ
divisor_of Distance l m = l + m
divisor_of (From t) l m = m
