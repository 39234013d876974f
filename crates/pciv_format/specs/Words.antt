-- Lists of words of 64 bits, and masks among them (docs/FORMAT.md, "Masks").
--   Words ws      every element of ws is a word
--   IsMask n ws   ws is a mask of n slots
-- Laws are in proofs/MaskLaws.antt. Axioms: none.
use Rattle.std.specs.Prelude.{◌≡◌, ℕ, ◌^◌, ◌≤◌, ◌<◌, false, List, length, get_or}
use Rattle.pciv_format.specs.Mask.{mask_len, mask_has}

abbrev pub Words : List ℕ → Type 0
Words ws = (w : ℕ) → get_or ws w 0 < 2 ^ 64

pub record IsMask (n : ℕ) (ws : List ℕ) : Type 0 where
  pub count : length ws ≡ mask_len n
  pub past : (i : ℕ) → n ≤ i → mask_has ws i ≡ false
