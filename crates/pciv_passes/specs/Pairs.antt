-- Two lists of bytes, byte by byte.
--   byte_op o x y     the smaller or larger of two bytes, their sum, at most 255, or their difference, at least 0;
--                    Lower, the difference, and Raise, the sum, keep an x of 0 and make no other one 0
--   pair_at o xs ys i the operation on bytes i
--   one_at o xs y i   the operation on byte i and the byte y
--   full_at o xs ys i 1 where that is 255, else 0
-- Axioms: none.
use Rattle.std.specs.Prelude.{ℕ, ◌+◌, ◌-◌, min, max, cond, List, eqb}
use Rattle.pciv_bytes.specs.Ranges.{flag}
use Rattle.pciv_bytes.specs.ByteAt.{byte_at}
use Rattle.pciv_passes.specs.declared.pairs.ByteOp.{ByteOp}
use Rattle.pciv_passes.specs.declared.pairs.ByteOp.TheVariants.{Min, Max, Add, Sub, Lower, Raise}

abbrev pub byte_op : ByteOp → ℕ → ℕ → ℕ
byte_op Min x y = min x y
byte_op Max x y = max x y
byte_op Add x y = min 255 (x + y)
byte_op Sub x y = x - y
byte_op Lower x y = max (x - y) (min x 1)
byte_op Raise x y = cond (eqb x 0) 0 (min 255 (x + y))

abbrev pub pair_at : ByteOp → List ℕ → List ℕ → ℕ → ℕ
pair_at o xs ys i = byte_op o (byte_at xs i) (byte_at ys i)

abbrev pub one_at : ByteOp → List ℕ → ℕ → ℕ → ℕ
one_at o xs y i = byte_op o (byte_at xs i) y

abbrev pub full_at : ByteOp → List ℕ → List ℕ → ℕ → ℕ
full_at o xs ys i = flag (eqb (pair_at o xs ys i) 255)
