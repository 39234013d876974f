-- What a mask makes of a map (docs/FORMAT.md, "Masks").
--   masked_of op set x           what becomes of the distance x of a slot that is set, or not
--   masked_distance op P ws i    the distance of the result at slot i
--   masked_byte op bit x         what becomes of the primary byte x where the bit is 0 or 1
--   masked_word op b at word j   of the byte at + j of b, by bit j of a word
-- Laws are in proofs/ByteLaws.antt. Axioms: none.
use Rattle.std.specs.Prelude.{ℕ, ◌+◌, min, Bool, cond, List, eqb}
use Rattle.pciv_bytes.specs.ByteAt.{byte_at}
use Rattle.pciv_format.specs.Parts.{Parts, value_of}
use Rattle.pciv_format.specs.Mask.{bit_at, mask_has, kept_if, plus_if}
use Rattle.pciv_mask_primary.specs.declared.MaskedOp.{MaskedOp}
use Rattle.pciv_mask_primary.specs.declared.MaskedOp.TheVariants.{Keep, Increment}

abbrev pub masked_of : MaskedOp → Bool → ℕ → ℕ
masked_of Keep = kept_if
masked_of Increment = plus_if

abbrev pub masked_distance : MaskedOp → Parts → List ℕ → ℕ → ℕ
masked_distance op P ws i = masked_of op (mask_has ws i) (value_of P i)

abbrev pub masked_byte : MaskedOp → ℕ → ℕ → ℕ
masked_byte Keep bit x = cond (eqb bit 0) 0 x
masked_byte Increment bit x = min 255 (x + bit)

abbrev pub masked_word : MaskedOp → List ℕ → ℕ → ℕ → ℕ → ℕ
masked_word op b at word j = masked_byte op (bit_at word j) (byte_at b (at + j))
