-- What the mask routines answer and write, case by case.
--   combine-is, complement-is  the outcome by the test of the masks that the code makes
--   combine-refused, complement-refused          a refused call changes no word
--   combine-fits, -written, complement-fits, -written    where it is done the words fit, and are those that are written
--   set_bits-done              the number of set bits
-- Axioms: none.
use Rattle.std.proofs.Common.{Ok, Err, arith}
use Rattle.pciv_format.specs.declared.RefusalKind.TheVariants.{BadMask}
use mathlib.Core.Path.{◌≡◌, sym, ap, ◌∙◌}
use Prim.Native.Nat.{ℕ, ◌*◌, ◌≤◌}
use mathlib.Core.Bool.{Bool, false, not, ◌&&◌, ◌||◌}
use mathlib.Core.List.{List}
use lib.ListN.{length}
use lib.Seq.{sets}
use lib.Dec.{ltb}
use Rattle.std.proofs.lemmas.Bool.Decides.{nat_tests}
use borrow.Author.Tests.{le-ltb, ltb-false}
use Rattle.pciv_bytes.specs.Ranges.{flag, table, sum_from}
use Rattle.pciv_bytes.proofs.WriteLaws.{sets-front}
use Rattle.pciv_format.specs.Layout.{max_slots}
use Rattle.pciv_format.specs.Refusals.{refuse, refuse_if, written}
use Rattle.pciv_format.specs.Read.{items_into}
use Rattle.pciv_format.specs.Mask.{mask_len, mask_has, mask_of, bad_mask, combined, refuse_masks, combine_outcome}
use Rattle.pciv_format.specs.Mask.{combine_words, complement_outcome, complement_words, set_bits}
use Rattle.pciv_format.specs.Mask.{set_bits_outcome}
use Rattle.pciv_format.specs.declared.MaskOp.{MaskOp}
use Rattle.pciv_format.specs.declared.Refusal.{Refusal}
use Rattle.pciv_format.proofs.RefusalsLaws.{refuse_if-done}
use Rattle.pciv_format.specs.Words.{Words, IsMask}
use Rattle.pciv_format.proofs.MaskLaws.{or-false, bad_mask-good, good-bad_mask, length-mask_of, set_bits-sum}
use Rattle.pciv_mask_logic.specs.Logic.{op_at, flip_at}
use Rattle.pciv_mask_logic.proofs.LogicLaws.{combined-words, flipped-words}

-- ---- a mask into a list of words

module _ (n : ℕ) (bad : Bool) (out : List ℕ) (x : ℕ)
    (e : refuse_masks n bad (items_into (mask_len n) (length out)) ≡ Ok x) where
  after-slots : (ltb max_slots n ≡ false) × (refuse_if bad (refuse BadMask 0 0) (items_into (mask_len n) (length out)) ≡ Ok x)
  after-slots = refuse_if-done (ltb max_slots n) _ _ x e

  after-masks : (bad ≡ false) × (items_into (mask_len n) (length out) ≡ Ok x)
  after-masks = refuse_if-done bad _ _ x after-slots.1

  mask-good : bad ≡ false
  mask-good = after-masks.0

  mask_fits : mask_len n ≤ length out
  mask_fits = ltb-false _ _ (refuse_if-done (ltb (length out) (mask_len n)) _ (Ok (mask_len n)) x after-masks.1).0

  mask-written : (f : List ℕ) → length f ≡ mask_len n
      → sets out 0 f ≡ written (refuse_masks n bad (items_into (mask_len n) (length out))) f out
  mask-written f full = rw e (sets-front f out (rw full mask_fits))

-- ---- and, or, exclusive or

or-not : (a b : Bool) → a || b ≡ not (not a && not b)
or-not a b = grind (arith, nat_tests)

module _ (op : MaskOp) (n : ℕ) (xs ys out : List ℕ) where
  pub combine-is : combine_outcome op n xs ys (length out)
      ≡ refuse_masks n (not (not (bad_mask n xs) && not (bad_mask n ys))) (items_into (mask_len n) (length out))
  unfolding combine_outcome
  combine-is =
      ap (λ (bad : Bool). refuse_masks n bad (items_into (mask_len n) (length out))) (or-not (bad_mask n xs) (bad_mask n ys))

  pub combine-refused : (r : Refusal) → combine_outcome op n xs ys (length out) ≡ Err r
      → combine_words op n xs ys out ≡ out
  unfolding combine_words
  combine-refused r e = rw e

  module _ (x : ℕ) (e : combine_outcome op n xs ys (length out) ≡ Ok x) where
    good : (bad_mask n xs ≡ false) × (bad_mask n ys ≡ false)
    unfolding combine_outcome
    good = or-false (bad_mask n xs) (bad_mask n ys) (mask-good n (bad_mask n xs || bad_mask n ys) out x e)

    mask-x : IsMask n xs
    mask-x = bad_mask-good n xs good.0

    mask-y : IsMask n ys
    mask-y = bad_mask-good n ys good.1

    pub combine-fits : (length xs ≡ length ys) × (length xs ≤ length out)
    unfolding combine_outcome
    combine-fits = (
      mask-x.count ∙ sym mask-y.count,
      rw mask-x.count (mask_fits n (bad_mask n xs || bad_mask n ys) out x e),
    )

    pub combine-written : Words xs → Words ys
        → sets out 0 (table (op_at op xs ys) 0 (length xs)) ≡ combine_words op n xs ys out
    unfolding combine_outcome combine_words
    combine-written words-x words-y =
        let p : ℕ → Bool = λ i. combined op (mask_has xs i) (mask_has ys i) in
        rw (mask-x.count, combined-words op n xs ys words-x words-y mask-x mask-y)
        (mask-written n (bad_mask n xs || bad_mask n ys) out x e (mask_of n p) (length-mask_of n p))

-- ---- not

module _ (n : ℕ) (ws out : List ℕ) where
  pub complement-is : complement_outcome n ws (length out)
      ≡ refuse_masks n (not (not (bad_mask n ws))) (items_into (mask_len n) (length out))
  unfolding complement_outcome
  complement-is =
      ap (λ (bad : Bool). refuse_masks n bad (items_into (mask_len n) (length out))) (grind (arith, nat_tests))

  pub complement-refused : (r : Refusal) → complement_outcome n ws (length out) ≡ Err r
      → complement_words n ws out ≡ out
  unfolding complement_words
  complement-refused r e = rw e

  module _ (x : ℕ) (e : complement_outcome n ws (length out) ≡ Ok x) where
    mask : IsMask n ws
    unfolding complement_outcome
    mask = bad_mask-good n ws (mask-good n (bad_mask n ws) out x e)

    pub complement-fits : (length ws ≡ mask_len n) × (length ws ≤ length out)
    unfolding complement_outcome
    complement-fits = (mask.count, rw mask.count (mask_fits n (bad_mask n ws) out x e))

    pub complement-written : Words ws → sets out 0 (table (flip_at n ws) 0 (mask_len n)) ≡ complement_words n ws out
    unfolding complement_outcome complement_words
    complement-written words =
        let p : ℕ → Bool = λ i. not (mask_has ws i) in
        rw (flipped-words n ws words mask) (mask-written n (bad_mask n ws) out x e (mask_of n p) (length-mask_of n p))

-- ---- set bits

module _ (n : ℕ) (ws : List ℕ) where
  pub set_bits-done : n ≤ max_slots → IsMask n ws
      → set_bits_outcome n ws ≡ Ok (sum_from (λ (i : ℕ). flag (mask_has ws i)) 0 (64 * length ws))
  unfolding set_bits_outcome set_bits
  set_bits-done few mask =
      rw (le-ltb max_slots n few, good-bad_mask n ws mask) (ap Ok (sym (set_bits-sum n ws mask)))
