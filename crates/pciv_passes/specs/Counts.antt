-- What is counted and summed over the bytes of a list.
--   passes t x         byte x passes the test t;  test_at t xs i  1 where byte i does, else 0
--   term_of of x        what a sum of `of` adds for a byte x;  term_at of xs i  for byte i
-- Axioms: none.
use Rattle.std.specs.Prelude.{ℕ, List, Bool, leb, eqb}
use Rattle.pciv_bytes.specs.Ranges.{flag}
use Rattle.pciv_bytes.specs.ByteAt.{byte_at}
use Rattle.pciv_passes.specs.declared.counts.Test.{Test}
use Rattle.pciv_passes.specs.declared.counts.Test.TheVariants.{Equal, AtLeast}
use Rattle.pciv_passes.specs.declared.counts.Term.{Term}
use Rattle.pciv_passes.specs.declared.counts.Term.TheVariants.{Passing, Byte}

abbrev pub passes : Test → ℕ → Bool
passes (Equal y) x = eqb x y
passes (AtLeast y) x = leb y x

abbrev pub test_at : Test → List ℕ → ℕ → ℕ
test_at t xs i = flag (passes t (byte_at xs i))

abbrev pub term_of : Term → ℕ → ℕ
term_of (Passing t) x = flag (passes t x)
term_of Byte x = x

abbrev pub term_at : Term → List ℕ → ℕ → ℕ
term_at of xs i = term_of of (byte_at xs i)
