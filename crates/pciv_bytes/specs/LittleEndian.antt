-- Little-endian numbers (docs/FORMAT.md, "Conventions").
--   le w x      x as w bytes, the lowest first
--   number bs   the number that some bytes are, the lowest first
--   get w b at  the number of the w bytes of b from at on
--   Bytes b     every element of b is a byte
-- Laws are in proofs/LittleEndianLaws.antt. Axioms: none.
use Rattle.std.specs.Prelude.{ℕ, zero, suc, ◌+◌, ◌*◌, ◌/◌, ◌%◌, ◌<◌, List, [], ◌∷◌, get_or, take, drop}

unfoldable pub le : ℕ → ℕ → List ℕ
le zero x = []
le (suc w) x = x % 256 ∷ le w (x / 256)

unfoldable pub number : List ℕ → ℕ
number [] = 0
number (b ∷ bs) = b + 256 * number bs

unfoldable pub get : ℕ → List ℕ → ℕ → ℕ
get w b at = number (take w (drop at b))

abbrev pub Bytes : List ℕ → Type 0
Bytes b = (i : ℕ) → get_or b i 0 < 256
