-- Masks (docs/FORMAT.md, "Masks"): words of 64 bits, slot i at bit i mod 64 of word i div 64, the lowest bit first.
--   mask_len n           how many words a mask of n slots has
--   bit_at x j           bit j of a word;  word p i c  the word of c bits, set where p holds of i, i + 1, ..
--   mask_has ws i        slot i is set in the words ws;  mask_value ws i  the same as 0 or 1
--   mask_of n p          the mask of the slots below n with p
--   bad_mask n ws        ws is no mask of n slots (refusal 13)
--   holds c x t         distance x compares with t as c says
--   threshold_outcome c, near_mask_outcome     masks of a map
--   combine_outcome op, complement_outcome    masks of masks;  set_bits_outcome  the number of set bits
--   kept_if, plus_if      a distance kept, or one more, where a slot is set;  is_near t x  the near mask's test
--   bits_row b           the eight bytes of the eight bits of b
--   masked_outcome       a map to which a mask is applied
--   map_of_mask_outcome, keep_masked_outcome ("cut"), increment_masked_outcome ("tally")   files from masks
-- Those that write have a -Words or -Buffer beside them: what the caller's list or buffer holds afterwards.
-- Laws are in proofs/BitLaws.antt and MaskLaws.antt, those of the near mask in ZeroLaws.antt. Axioms: none.
use Rattle.std.specs.Prelude.{Ok}
use Rattle.pciv_format.specs.declared.RefusalKind.TheVariants.{TooManySlots, BadMask}
use Rattle.std.specs.Prelude.{ℕ, zero, suc, ◌+◌, ◌-◌, ◌*◌, ◌/◌, ◌%◌, ◌^◌, min, Bool, not, cond, ◌&&◌, ◌||◌, List, length, get_or, ltb, leb, eqb}
use Rattle.std.specs.Bool.{xor}
use Rattle.pciv_bytes.specs.Ranges.{flag, ceil_div, first_from, table, sum_from}
use Rattle.pciv_format.specs.Layout.{max_slots, at}
use Rattle.pciv_format.specs.Refusals.{Outcome, refuse, refuse_if, and_then, written}
use Rattle.pciv_format.specs.Check.{counts_file}
use Rattle.pciv_format.specs.Read.{list_of, items_into}
use Rattle.pciv_format.specs.Write.{map_into, file_buffer}
use Rattle.pciv_format.specs.declared.Summary.{Summary}
use Rattle.pciv_format.specs.declared.Comparison.{Comparison}
use Rattle.pciv_format.specs.declared.Comparison.TheVariants.{Below, AtMost, Above, AtLeast}
use Rattle.pciv_format.specs.declared.MaskOp.{MaskOp}
use Rattle.pciv_format.specs.declared.MaskOp.TheVariants.{And, Or, Xor}

-- ---- words and bits

abbrev pub mask_len : ℕ → ℕ
mask_len n = ceil_div n 64

-- bit j of a word
unfoldable pub bit_at : ℕ → ℕ → ℕ
bit_at x j = x / 2 ^ j % 2

unfoldable pub mask_has : List ℕ → ℕ → Bool
mask_has ws i = eqb (bit_at (get_or ws (i / 64) 0) (i % 64)) 1

-- c bits, set where p holds of i, i + 1, .., the lowest first
unfoldable pub word : (ℕ → Bool) → ℕ → ℕ → ℕ
word p i zero = 0
word p i (suc c) = flag (p i) + 2 * word p (suc i) c

unfoldable pub mask_of : ℕ → (ℕ → Bool) → List ℕ
mask_of n p = table (λ (w : ℕ). word p (64 * w) (min 64 (n - 64 * w))) 0 (mask_len n)

-- another number of words than n needs, or a set bit past n
unfoldable pub bad_mask : ℕ → List ℕ → Bool
bad_mask n ws =
    not (eqb (length ws) (mask_len n))
    || ltb (first_from (mask_has ws) n (64 * mask_len n - n)) (64 * mask_len n)

-- ---- masks of a map

abbrev pub holds : Comparison → ℕ → ℕ → Bool
holds Below x t = ltb x t
holds AtMost x t = leb x t
holds Above x t = ltb t x
holds AtLeast x t = leb t x

-- a mask of the slots of b into a list of `capacity` words
abbrev pub select_outcome : List ℕ → ℕ → Outcome ℕ
select_outcome b capacity = and_then (counts_file 1 b) (λ s. items_into (mask_len s.n) capacity)

abbrev pub select_words : (ℕ → Bool) → List ℕ → List ℕ → List ℕ
select_words p b out =
    written (select_outcome b (length out)) (mask_of (length (list_of b)) (λ i. p (at (list_of b) i))) out

unfoldable pub threshold_outcome : Comparison → List ℕ → ℕ → ℕ → Outcome ℕ
threshold_outcome c b t capacity = select_outcome b capacity

unfoldable pub threshold_words : Comparison → List ℕ → ℕ → List ℕ → List ℕ
threshold_words c b t out = select_words (λ x. holds c x t) b out

-- the near mask at t: the distances from 1 to t, so that zero distances ("holes") are left out
abbrev pub is_near : ℕ → ℕ → Bool
is_near t x = leb 1 x && leb x t

unfoldable pub near_mask_outcome : List ℕ → ℕ → ℕ → Outcome ℕ
near_mask_outcome b t capacity = select_outcome b capacity

unfoldable pub near_mask_words : List ℕ → ℕ → List ℕ → List ℕ
near_mask_words b t out = select_words (is_near t) b out

-- ---- masks of masks

abbrev pub combined : MaskOp → Bool → Bool → Bool
combined And x y = x && y
combined Or x y = x || y
combined Xor x y = xor x y

-- n too large, then a mask at fault, then what follows
module _ {A : Type 0} where
  abbrev pub refuse_masks : ℕ → Bool → Outcome A → Outcome A
  refuse_masks n bad o = refuse_if (ltb max_slots n) (refuse TooManySlots 1 0) (refuse_if bad (refuse BadMask 0 0) o)

unfoldable pub combine_outcome : MaskOp → ℕ → List ℕ → List ℕ → ℕ → Outcome ℕ
combine_outcome op n xs ys capacity = refuse_masks n (bad_mask n xs || bad_mask n ys) (items_into (mask_len n) capacity)

unfoldable pub combine_words : MaskOp → ℕ → List ℕ → List ℕ → List ℕ → List ℕ
combine_words op n xs ys out =
    written (combine_outcome op n xs ys (length out)) (mask_of n (λ i. combined op (mask_has xs i) (mask_has ys i))) out

unfoldable pub complement_outcome : ℕ → List ℕ → ℕ → Outcome ℕ
complement_outcome n ws capacity = refuse_masks n (bad_mask n ws) (items_into (mask_len n) capacity)

unfoldable pub complement_words : ℕ → List ℕ → List ℕ → List ℕ
complement_words n ws out = written (complement_outcome n ws (length out)) (mask_of n (λ i. not (mask_has ws i))) out

unfoldable pub set_bits : ℕ → List ℕ → ℕ
set_bits n ws = sum_from (λ (i : ℕ). flag (mask_has ws i)) 0 n

unfoldable pub set_bits_outcome : ℕ → List ℕ → Outcome ℕ
set_bits_outcome n ws = refuse_masks n (bad_mask n ws) (Ok (set_bits n ws))

-- ---- files from masks

-- row b of the table that turns eight bits into eight bytes: place j is bit j of b
unfoldable pub bits_row : ℕ → List ℕ
bits_row b = table (bit_at b) 0 8

-- a mask as a map of 0 and 1
abbrev pub mask_value : List ℕ → ℕ → ℕ
mask_value ws i = flag (mask_has ws i)

unfoldable pub map_of_mask_outcome : ℕ → List ℕ → ℕ → Outcome Summary
map_of_mask_outcome n ws capacity = refuse_masks n (bad_mask n ws) (map_into n (mask_value ws) capacity)

unfoldable pub map_of_mask_buffer : ℕ → List ℕ → List ℕ → List ℕ
map_of_mask_buffer n ws out = file_buffer (map_of_mask_outcome n ws (length out)) n (mask_value ws) out

-- the map of f at each slot's set bit and distance
abbrev pub masked_outcome : (Bool → ℕ → ℕ) → List ℕ → List ℕ → ℕ → Outcome Summary
masked_outcome f b ws capacity =
    and_then (counts_file 1 b)
    (λ s. refuse_if (bad_mask s.n ws) (refuse BadMask 0 0) (map_into s.n (λ i. f (mask_has ws i) (at (list_of b) i)) capacity))

abbrev pub masked_buffer : (Bool → ℕ → ℕ) → List ℕ → List ℕ → List ℕ → List ℕ
masked_buffer f b ws out =
    file_buffer (masked_outcome f b ws (length out)) (length (list_of b)) (λ i. f (mask_has ws i) (at (list_of b) i)) out

-- cut: distance 0 where the mask is 0
abbrev pub kept_if : Bool → ℕ → ℕ
kept_if is_set x = cond is_set x 0

unfoldable pub keep_masked_outcome : List ℕ → List ℕ → ℕ → Outcome Summary
keep_masked_outcome b ws capacity = masked_outcome kept_if b ws capacity

unfoldable pub keep_masked_buffer : List ℕ → List ℕ → List ℕ → List ℕ
keep_masked_buffer b ws out = masked_buffer kept_if b ws out

-- tally: plus 1 where the mask is 1
abbrev pub plus_if : Bool → ℕ → ℕ
plus_if is_set x = x + flag is_set

unfoldable pub increment_masked_outcome : List ℕ → List ℕ → ℕ → Outcome Summary
increment_masked_outcome b ws capacity = masked_outcome plus_if b ws capacity

unfoldable pub increment_masked_buffer : List ℕ → List ℕ → List ℕ → List ℕ
increment_masked_buffer b ws out = masked_buffer plus_if b ws out
