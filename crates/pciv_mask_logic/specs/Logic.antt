-- Masks of masks, word by word.
--   bit_op op x y      the operation on the bits of two words
--   op_at op xs ys w   the operation on words w
--   low_bits c         a word with its c lowest bits set
--   flip_at n ws w     word w with the bits of slots below n turned round
-- Laws are in proofs/LogicLaws.antt. Axioms: none.
use Rattle.std.specs.Prelude.{ℕ, ◌-◌, ◌*◌, ◌^◌, min, List, get_or}
use Rattle.std.specs.Int.Bits.{bit_and, bit_or, bit_xor}
use Rattle.pciv_format.specs.declared.MaskOp.{MaskOp}
use Rattle.pciv_format.specs.declared.MaskOp.TheVariants.{And, Or, Xor}

abbrev pub bit_op : MaskOp → ℕ → ℕ → ℕ
bit_op And x y = bit_and x y
bit_op Or x y = bit_or x y
bit_op Xor x y = bit_xor x y

abbrev pub op_at : MaskOp → List ℕ → List ℕ → ℕ → ℕ
op_at op xs ys w = bit_op op (get_or xs w 0) (get_or ys w 0)

abbrev pub low_bits : ℕ → ℕ
low_bits c = 2 ^ c - 1

abbrev pub flip_at : ℕ → List ℕ → ℕ → ℕ
flip_at n ws w = bit_xor (get_or ws w 0) (low_bits (min 64 (n - 64 * w)))
