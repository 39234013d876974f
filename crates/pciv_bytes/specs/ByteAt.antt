-- The bytes of a list, and tests of them.
--   byte_at xs i        byte i
--   byte_is xs x i      1 where byte i is x, else 0;  byte_from xs x i  1 where it is x or more
-- Laws of sums over them are in proofs/SumLaws.antt. Axioms: none.
use Rattle.std.specs.Prelude.{ℕ, List, get_or, leb, eqb}
use Rattle.pciv_bytes.specs.Ranges.{flag}

abbrev pub byte_at : List ℕ → ℕ → ℕ
byte_at xs i = get_or xs i 0

abbrev pub byte_is : List ℕ → ℕ → ℕ → ℕ
byte_is xs x i = flag (eqb (byte_at xs i) x)

abbrev pub byte_from : List ℕ → ℕ → ℕ → ℕ
byte_from xs x i = flag (leb x (byte_at xs i))
