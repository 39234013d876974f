-- Laws of the masks of a map: a comparison as a limit, what the primary bytes tell, and what `select` answers, case by
-- case.
--   holds-limit         a comparison with t is a test of a limit
--   bytes-limit, -near  where the primary bytes tell, their mask is that of the distances
--   bytes-start         the mask of the bytes that are not 0
--   select-done         the outcome, where the file is a map with counts s
--   words-done, -cong   the caller's words afterwards
-- Axioms: none.
use Rattle.std.proofs.Common.{Ok}
use mathlib.Core.Path.{◌≡◌, refl, sym, ap, ap₂, ◌∙◌}
use Prim.Native.Nat.{ℕ, ◌+◌, ◌≤◌, ◌<◌}
use native.Mathlib.Omega.{arith}
use mathlib.Core.Bool.{Bool, true}
use mathlib.Core.List.{List}
use lib.ListN.{length}
use lib.Seq.{sets}
use lib.Dec.{ltb}
use Rattle.std.proofs.lemmas.Bool.Decides.{nat_tests}
use borrow.Author.Tests.{le-ltb}
use Rattle.pciv_bytes.specs.LittleEndian.{Bytes}
use Rattle.pciv_bytes.specs.ByteAt.{byte_at}
use Rattle.pciv_bytes.proofs.WriteLaws.{sets-front}
use Rattle.pciv_format.specs.Layout.{at}
use Rattle.pciv_format.specs.Refusals.{Outcome, written}
use Rattle.pciv_format.specs.Parts.{Parts, value_of, SoundParts}
use Rattle.pciv_format.specs.Check.{counts_file, file_parts, CheckedMap}
use Rattle.pciv_format.specs.Read.{list_of}
use Rattle.pciv_format.specs.Mask.{mask_len, mask_of, holds, is_near, select_outcome, select_words}
use Rattle.pciv_format.specs.declared.Counts.{Counts}
use Rattle.pciv_format.specs.declared.Comparison.{Comparison}
use Rattle.pciv_format.specs.declared.Comparison.TheVariants.{Below, AtMost, Above, AtLeast}
use Rattle.pciv_format.proofs.PartsLaws.{slot_cases}
use Rattle.pciv_format.proofs.ZeroLaws.{near_none}
use Rattle.pciv_format.proofs.ReadLaws.{length-list_of, at-list, items-fit}
use Rattle.pciv_format.proofs.MapLaws.{primary_of, primary-length, primary-at}
use Rattle.pciv_format.proofs.ReadCaseLaws.{checked}
use Rattle.pciv_format.proofs.MaskLaws.{length-mask_of, mask_of-cong}
use Rattle.pciv_bits.specs.Flags.{flip_if, passes, passes_at, near_at}
use Rattle.pciv_mask_threshold.specs.Select.{limit_of, is_negated, asked_in, start_in}
use Rattle.pciv_mask_threshold.specs.declared.Asked.TheVariants.{Limit, Near}

-- ---- comparisons

pub holds-limit : (c : Comparison) (x t : ℕ) → passes (limit_of c t) (is_negated c) x ≡ holds c x t
holds-limit Below x t = refl
holds-limit AtMost x t = grind (arith, nat_tests)
holds-limit Above x t = grind (arith, nat_tests)
holds-limit AtLeast x t = grind (arith, nat_tests)

-- ---- the primary bytes

byte-below : (P : Parts) → SoundParts P → ((i : ℕ) → P.byte i < 256) → (limit : ℕ) → limit ≤ 255
    → (i : ℕ) → i < P.n → ltb (P.byte i) limit ≡ ltb (value_of P i) limit
byte-below P s bytes limit low i inside =
    slot_cases P s bytes i inside (λ small e. ap (λ (x : ℕ). ltb x limit) (sym e))
    (λ j hj at e w overflows. le-ltb (P.byte i) limit (omega arith) ∙ sym (le-ltb (value_of P i) limit (omega arith)))

module _ (b : List ℕ) (n k : ℕ) (m : CheckedMap b n k) (bytes : Bytes b) where
  abbrev P : Parts
  P = file_parts b n k

  -- a mask of the primary bytes, by a test q of them
  mask-bytes : (q : ℕ → Bool) (p : ℕ → Bool) → ((i : ℕ) → i < n → q (P.byte i) ≡ p i)
      → mask_of (length (primary_of b n)) (λ (i : ℕ). q (byte_at (primary_of b n) i)) ≡ mask_of n p
  mask-bytes q p same =
      ap (λ (c : ℕ). mask_of c (λ (i : ℕ). q (byte_at (primary_of b n) i))) (primary-length b n k m)
      ∙ mask_of-cong n (λ (i : ℕ). q (byte_at (primary_of b n) i)) p (λ i h. ap q (primary-at b n k m i h) ∙ same i h)

  pub bytes-limit : (limit : ℕ) (negated : Bool) → limit ≤ 255
      → mask_of (length (primary_of b n)) (passes_at (primary_of b n) limit negated)
      ≡ mask_of n (asked_in P (Limit limit negated))
  bytes-limit limit negated low =
      mask-bytes (passes limit negated) (asked_in P (Limit limit negated))
      (λ i h. ap (flip_if negated) (byte-below P m.parts (λ t. bytes (40 + t)) limit low i h))

  pub bytes-near : (t : ℕ) → t < 255
      → mask_of (length (primary_of b n)) (near_at (primary_of b n) t) ≡ mask_of n (asked_in P (Near t))
  bytes-near t low =
      mask-bytes (is_near t) (asked_in P (Near t))
      (λ i h.
      slot_cases P m.parts (λ s. bytes (40 + s)) i h (λ small e. ap (is_near t) (sym e))
      (λ j hj at e w overflows. near_none t (P.byte i) (omega arith) ∙ sym (near_none t (value_of P i) (omega arith))))

  pub bytes-start : (t : ℕ)
      → mask_of (length (primary_of b n)) (passes_at (primary_of b n) 1 true) ≡ mask_of n (start_in P (Near t))
  bytes-start t = mask-bytes (passes 1 true) (start_in P (Near t)) (λ i h. refl)

-- ---- the caller's words, by the outcome

module _ (p : ℕ → Bool) (b out : List ℕ) where
  pub words-cong : (q : ℕ → Bool) → ((x : ℕ) → p x ≡ q x) → select_words p b out ≡ select_words q b out
  words-cong q same =
      ap (λ (ws : List ℕ). written (select_outcome b (length out)) ws out)
      (mask_of-cong (length (list_of b)) (λ (i : ℕ). p (at (list_of b) i)) (λ (i : ℕ). q (at (list_of b) i))
      (λ i h. same (at (list_of b) i)))

-- ---- the file is a map

module _ (b : List ℕ) (s : Counts) (e : counts_file 1 b ≡ Ok s) where
  pub select-done : (capacity : ℕ) → mask_len s.n ≤ capacity → select_outcome b capacity ≡ Ok (mask_len s.n)
  select-done capacity h = rw e (items-fit (mask_len s.n) capacity h)

  pub words-done : (p : ℕ → Bool) (out : List ℕ) → mask_len s.n ≤ length out
      → sets out 0 (mask_of s.n (λ (i : ℕ). p (value_of (file_parts b s.n s.k) i))) ≡ select_words p b out
  words-done p out h =
      let m = checked b s e in
      let read : ℕ → Bool = λ i. p (at (list_of b) i) in
      let ours : ℕ → Bool = λ i. p (value_of (file_parts b s.n s.k) i) in
      let same : mask_of (length (list_of b)) read ≡ mask_of s.n ours =
      ap (λ (c : ℕ). mask_of c read) (length-list_of b ∙ m.header.n_is)
      ∙ mask_of-cong s.n read ours
      (λ i inside. ap p (at-list b s.n s.k m.header.n_is m.header.k_is i inside)) in
      sets-front (mask_of s.n ours) out (rw (length-mask_of s.n ours) h)
      ∙ sym (ap₂ (λ (o : Outcome ℕ) (ws : List ℕ). written o ws out) (select-done (length out) h) same)
