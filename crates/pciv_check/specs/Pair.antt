-- What the check of two files answers (docs/FORMAT.md, "Arithmetic").
--   pair_counts a b            the counts of both; refusals 1 to 8 of a, then of b, then 10
--   CheckedPair a b n ka kb   what inner routines know of the two
-- Laws are in proofs/PairLaws.antt. Axioms: none.
use Rattle.std.specs.Prelude.{Ok}
use Rattle.pciv_format.specs.declared.RefusalKind.TheVariants.{SizeMismatch}
use Rattle.std.specs.Prelude.{ℕ, not, List, eqb}
use Rattle.pciv_format.specs.Refusals.{Outcome, refuse, refuse_if, and_then}
use Rattle.pciv_format.specs.Check.{counts_file, CheckedMap}
use Rattle.pciv_format.specs.declared.Counts.{Counts}
use Rattle.pciv_check.specs.declared.pair.PairCounts.{PairCounts}

abbrev pub both_counts : Counts → Counts → PairCounts
both_counts s t = record { n = s.n; ka = s.k; kb = t.k }

unfoldable pub pair_counts : List ℕ → List ℕ → Outcome PairCounts
pair_counts a b =
    and_then (counts_file 1 a)
    (λ s. and_then (counts_file 2 b) (λ t. refuse_if (not (eqb s.n t.n)) (refuse SizeMismatch 0 0) (Ok (both_counts s t))))

pub record CheckedPair (a b : List ℕ) (n ka kb : ℕ) : Type 0 where
  pub first : CheckedMap a n ka
  pub second : CheckedMap b n kb
