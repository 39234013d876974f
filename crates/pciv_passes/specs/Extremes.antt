-- What the smaller and the larger of every two bytes add up to.
--   least_at of xs ys i, most_at of xs ys i    what a sum of `of` adds for the smaller and for the larger of bytes i
--   ExtremeSums of xs ys from to l m         l and m are the sums of the two, from `from` up to `to`
-- Laws are in proofs/ExtremesLaws.antt. Axioms: none.
use Rattle.std.specs.Prelude.{◌≡◌, ℕ, ◌-◌, min, max, List}
use Rattle.pciv_bytes.specs.Ranges.{sum_from}
use Rattle.pciv_bytes.specs.ByteAt.{byte_at}
use Rattle.pciv_passes.specs.Counts.{term_of}
use Rattle.pciv_passes.specs.declared.counts.Term.{Term}

abbrev pub least_at : Term → List ℕ → List ℕ → ℕ → ℕ
least_at of xs ys i = term_of of (min (byte_at xs i) (byte_at ys i))

abbrev pub most_at : Term → List ℕ → List ℕ → ℕ → ℕ
most_at of xs ys i = term_of of (max (byte_at xs i) (byte_at ys i))

pub record ExtremeSums (of : Term) (xs ys : List ℕ) (from to l m : ℕ) : Type 0 where
  pub least : l ≡ sum_from (least_at of xs ys) from (to - from)
  pub most : m ≡ sum_from (most_at of xs ys) from (to - from)
