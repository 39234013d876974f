-- The flags of bytes, and how 64 of them are gathered in a word.
--   meets test x          x is below the limit, or from 1 to t, as the test asks;  is_met xs test i  byte i is so
--   flip_if negated b      b, or its negation
--   flag_at xs test negated i  byte i meets the test; negated, it does not
--   passes limit negated x    x is below the limit; negated, it is not.  passes_at xs limit negated i  byte i is so
--   near_at xs t i         byte i is from 1 to t. (passes_at and near_at are flag_at of one test, for contracts outside.)
--   spread p i            the flags p of i, i + 16, i + 32 and i + 48, at every other bit of a byte
--   transposed j          the place of bit j once rows and columns of eight by eight bits are exchanged
--   Gathered p i x        x has the flags p of the 64 numbers from i on, its rows and columns exchanged
-- Laws are in proofs/. Axioms: none.
use Rattle.std.specs.Prelude.{◌≡◌, ℕ, ◌+◌, ◌*◌, ◌/◌, ◌%◌, ◌<◌, Bool, true, false, not, List, nat_lt}
use Rattle.pciv_bytes.specs.Ranges.{flag}
use Rattle.pciv_bytes.specs.ByteAt.{byte_at}
use Rattle.pciv_format.specs.Mask.{bit_at, is_near}
use Rattle.pciv_bits.specs.declared.gather.ByteTest.{ByteTest}
use Rattle.pciv_bits.specs.declared.gather.ByteTest.TheVariants.{Below, Near}

abbrev pub meets : ByteTest → ℕ → Bool
meets (Below limit) x = nat_lt x limit
meets (Near t) x = is_near t x

abbrev pub is_met : List ℕ → ByteTest → ℕ → Bool
is_met xs test i = meets test (byte_at xs i)

abbrev pub flip_if : Bool → Bool → Bool
flip_if true b = not b
flip_if false b = b

abbrev pub flag_at : List ℕ → ByteTest → Bool → ℕ → Bool
flag_at xs test negated i = flip_if negated (is_met xs test i)

abbrev pub passes : ℕ → Bool → ℕ → Bool
passes limit negated x = flip_if negated (nat_lt x limit)

abbrev pub passes_at : List ℕ → ℕ → Bool → ℕ → Bool
passes_at xs limit negated i = passes limit negated (byte_at xs i)

abbrev pub near_at : List ℕ → ℕ → ℕ → Bool
near_at xs t i = is_near t (byte_at xs i)

abbrev pub spread : (ℕ → Bool) → ℕ → ℕ
spread p i = flag (p i) + flag (p (i + 16)) * 4 + flag (p (i + 32)) * 16 + flag (p (i + 48)) * 64

abbrev pub transposed : ℕ → ℕ
transposed j = 8 * (j % 8) + j / 8

abbrev pub Gathered : (ℕ → Bool) → ℕ → ℕ → Type 0
Gathered p i x = (j : ℕ) → j < 64 → bit_at x j ≡ flag (p (i + transposed j))
