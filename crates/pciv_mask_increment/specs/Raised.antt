-- The slots that come to overflow when 1 is added where a mask is 1, counted along the set bits.
--   raised_at xs ws i    1 where slot i is set and has byte 254, else 0
--   picked g i c x      g i, g (i + 1), .. at the set ones of the c lowest bits of x, added up
--   SetBelow to i x     every set bit j of x has i + j below `to`
-- Laws are in proofs/PickedLaws.antt and RaisedLaws.antt. Axioms: none.
use Rattle.std.specs.Prelude.{◌≡◌, ℕ, zero, suc, ◌+◌, ◌*◌, ◌/◌, ◌%◌, ◌<◌, List}
use Rattle.pciv_bytes.specs.ByteAt.{byte_is}
use Rattle.pciv_format.specs.Mask.{bit_at, mask_value}

abbrev pub raised_at : List ℕ → List ℕ → ℕ → ℕ
raised_at xs ws i = mask_value ws i * byte_is xs 254 i

unfoldable pub picked : (ℕ → ℕ) → ℕ → ℕ → ℕ → ℕ
picked g i zero x = 0
picked g i (suc c) x = x % 2 * g i + picked g (suc i) c (x / 2)

abbrev pub SetBelow : ℕ → ℕ → ℕ → Type 0
SetBelow to i x = (j : ℕ) → bit_at x j ≡ 1 → i + j < to
