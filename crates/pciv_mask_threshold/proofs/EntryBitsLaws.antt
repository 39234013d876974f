-- Laws of a mask in which each overflow entry whose distance is not below a limit flips its slot, for a limit that every
-- inline distance is below.
--   flipped-asked                  what is asked is then the start, flipped
--   settled P limit p j i          slot i of the mask made of p after the first j entries
--   settled-start, -more, -end     before the first entry, one entry on, and after the last
--   flip-front                     a slot flipped in a mask at the front of a list
-- Axioms: none.
use mathlib.Core.Path.{◌≡◌, refl, sym, ap, ap₂, ◌∙◌}
use Prim.Native.Nat.{ℕ, suc, ◌+◌, ◌/◌, ◌%◌, ◌^◌, ◌*◌, ◌≤◌, ◌<◌}
use native.Mathlib.Nat.{zero-add}
use native.Mathlib.Numerals.{add-one}
use native.Mathlib.Omega.{arith}
use native.Mathlib.Decide.{dec_le}
use mathlib.Core.Bool.{Bool, true, false, not, cond}
use mathlib.Core.List.{List}
use lib.ListN.{length, get_or, set}
use lib.Seq.{sets}
use lib.Bits.{bit_xor}
use lib.Dec.{ltb, leb}
use Rattle.std.proofs.lemmas.Bool.Decides.{nat_tests}
use borrow.Author.Tests.{ltb-false, lt-ltb, le-ltb, lt-leb, eq-eqb, ne_eqb}
use Rattle.pciv_bytes.specs.Ranges.{flag}
use Rattle.pciv_bytes.proofs.WriteLaws.{sets-at, set-sets}
use Rattle.pciv_format.specs.Mask.{mask_len, mask_of, is_near}
use Rattle.pciv_format.specs.Parts.{Parts, value_of, lowest_slot, SoundParts}
use Rattle.pciv_format.proofs.PartsLaws.{entry-good, value_of-slot, slot_cases}
use Rattle.pciv_format.proofs.EntryLaws.{gap-inline, gap-value}
use Rattle.pciv_format.proofs.MaskLaws.{length-mask_of, mask_of-cong}
use Rattle.pciv_bits.specs.Flags.{flip_if, passes}
use Rattle.pciv_mask_threshold.specs.Select.{asked_in, bytes_tell, limit_asked, start_in, flipped_from}
use Rattle.pciv_mask_threshold.specs.declared.Asked.{Asked}
use Rattle.pciv_mask_threshold.specs.declared.Asked.TheVariants.{Limit, Near}
use Rattle.pciv_bits.proofs.FlipLaws.{flip_at, flipped, mask_of-flip}

-- ---- one distance

-- a distance that is not below the limit is the other way round
passes-flip : (limit : ℕ) (negated : Bool) (x : ℕ) → passes limit negated x ≡ flip_if (leb limit x) (not negated)
passes-flip limit true x = grind (arith, nat_tests)
passes-flip limit false x = grind (arith, nat_tests)

-- for t from 255 on: an inline distance, and one in overflow, whose byte is 255
near-inline : (t x : ℕ) → x < 255 → 255 ≤ t → flip_if (leb (t + 1) x) (passes 1 true x) ≡ is_near t x
near-inline t x small high = grind (arith, nat_tests)

near-overflow : (t x : ℕ) → 255 ≤ x → flip_if (leb (t + 1) x) true ≡ is_near t x
near-overflow t x large = grind (arith, nat_tests)

pub flipped-asked : (P : Parts) → SoundParts P → ((i : ℕ) → P.byte i < 256) → (a : Asked) → bytes_tell a ≡ false
    → mask_of P.n (flipped_from P (limit_asked a) (start_in P a)) ≡ mask_of P.n (asked_in P a)
flipped-asked P s bytes a e =
    mask_of-cong P.n (flipped_from P (limit_asked a) (start_in P a)) (asked_in P a) (slot a e)
  where
    slot : (a : Asked) → bytes_tell a ≡ false → (i : ℕ) → i < P.n
        → flipped_from P (limit_asked a) (start_in P a) i ≡ asked_in P a i
    slot (Limit limit negated) e i h = sym (passes-flip limit negated (value_of P i))
    slot (Near t) e i h =
        slot_cases P s bytes i h (λ small v. rw v (near-inline t (P.byte i) small (ltb-false t 255 e)))
        (λ j hj at full w overflows. rw full (near-overflow t (value_of P i) overflows))

-- ---- entry by entry

abbrev pub settled : Parts → ℕ → (ℕ → Bool) → ℕ → ℕ → Bool
settled P limit p j i = cond (ltb i (lowest_slot P j)) (flipped_from P limit p i) (p i)

settled-below : (P : Parts) (limit : ℕ) (p : ℕ → Bool) (j i : ℕ) → i < lowest_slot P j
    → settled P limit p j i ≡ flipped_from P limit p i
settled-below P limit p j i h = rw (lt-ltb i (lowest_slot P j) h)

settled-above : (P : Parts) (limit : ℕ) (p : ℕ → Bool) (j i : ℕ) → lowest_slot P j ≤ i → settled P limit p j i ≡ p i
settled-above P limit p j i h = rw (le-ltb i (lowest_slot P j) h)

module _ (P : Parts) (s : SoundParts P) (bytes : (i : ℕ) → P.byte i < 256)
    (limit : ℕ) (high : 255 ≤ limit) (p : ℕ → Bool) where
  -- between two entries
  gap-settled : (j i : ℕ) → j ≤ P.k → lowest_slot P j ≤ i → (j < P.k → i < P.slot j) → i < P.n
      → flipped_from P limit p i ≡ settled P limit p j i
  gap-settled j i few low before inside =
      let small : value_of P i < limit =
      omega (arith, gap-value P s bytes j i few low before inside, gap-inline P s bytes j i few low before inside) in
      ap (λ (b : Bool). flip_if b (p i)) (lt-leb limit (value_of P i) small) ∙ sym (settled-above P limit p j i low)

  -- up to entry j, where it has not come yet
  up_to : (j i : ℕ) → j ≤ P.k → (j < P.k → i < P.slot j) → i < P.n
      → settled P limit p j i ≡ flipped_from P limit p i
  up_to j i few before inside =
      elim (dec_le (lowest_slot P j) i) [
        | yes d ↦ sym (gap-settled j i few d before inside)
        | no d ↦ settled-below P limit p j i (omega arith)
      ]

  at_entry : (j : ℕ) → j < P.k
      → flip_if (leb limit (P.distance j)) (settled P limit p j (P.slot j)) ≡ settled P limit p (suc j) (P.slot j)
  at_entry j here =
      let at : ℕ = P.slot j in
      ap (flip_if (leb limit (P.distance j))) (settled-above P limit p j at (entry-good P s j here).above)
      ∙ ap (λ (x : ℕ). flip_if (leb limit x) (p at)) (sym (value_of-slot P s j here))
      ∙ sym (settled-below P limit p (suc j) at (omega arith))

  entry-settled : (j i : ℕ) → j < P.k → i < P.n
      → flip_at (settled P limit p j) (P.slot j) (leb limit (P.distance j)) i ≡ settled P limit p (suc j) i
  entry-settled j i here inside =
      elim (dec_le i (P.slot j)) [
        | yes d ↦ elim (dec_le (P.slot j) i) [
          | yes d' ↦ (let e : i ≡ P.slot j = omega arith in
              rw (e, eq-eqb (P.slot j) (P.slot j) refl) (at_entry j here))
          | no d' ↦ rw (ne_eqb i (P.slot j) (λ q. omega arith))
              (up_to j i (omega arith) (λ more. omega arith) inside
              ∙ sym (settled-below P limit p (suc j) i (omega arith)))
        ]
        | no d ↦ rw (ne_eqb i (P.slot j) (λ q. omega arith))
            (settled-above P limit p j i (omega (arith, (entry-good P s j here).above))
            ∙ sym (settled-above P limit p (suc j) i (omega arith)))
      ]

  -- ---- as masks

  pub settled-start : mask_of P.n p ≡ mask_of P.n (settled P limit p 0)
  settled-start =
      mask_of-cong P.n p (settled P limit p 0) (λ i h. sym (settled-above P limit p 0 i (omega arith)))

  pub settled-more : (j : ℕ) → j < P.k
      → mask_of P.n (flip_at (settled P limit p j) (P.slot j) (leb limit (P.distance j)))
      ≡ mask_of P.n (settled P limit p (j + 1))
  settled-more j here =
      rw (add-one j)
      (mask_of-cong P.n (flip_at (settled P limit p j) (P.slot j) (leb limit (P.distance j)))
      (settled P limit p (suc j)) (λ i h. entry-settled j i here h))

  pub settled-end : (j : ℕ) → j ≡ P.k → mask_of P.n (settled P limit p j) ≡ mask_of P.n (flipped_from P limit p)
  settled-end j all =
      mask_of-cong P.n (settled P limit p j) (flipped_from P limit p)
      (λ i h. up_to j i (omega arith) (λ more. absurd (omega arith)) h)

-- ---- at the front of a list

pub flip-front : (d : List ℕ) (n : ℕ) (p : ℕ → Bool) (s : ℕ) (b : Bool) (x : ℕ) → x ≡ flag b → mask_len n ≤ length d
    → s < n
    → (let out = sets d 0 (mask_of n p) in
    set out (s / 64) (bit_xor (get_or out (s / 64) 0) (x * 2 ^ (s % 64) % 2 ^ 64)) ≡ sets d 0 (mask_of n (flip_at p s b)))
flip-front d n p s b x e long h =
    let ws : List ℕ = mask_of n p in
    let space : 0 + length ws ≤ length d = rw (zero-add (length ws), length-mask_of n p) long in
    let inside : s / 64 < length ws = rw (length-mask_of n p) (omega arith) in
    let old : get_or (sets d 0 ws) (s / 64) 0 ≡ get_or ws (s / 64) 0 =
    rw (zero-add (s / 64)) at (sets-at d ws 0 (s / 64) 0 space inside) in
    ap₂ (λ (y z : ℕ). set (sets d 0 ws) (s / 64) (bit_xor y (z * 2 ^ (s % 64) % 2 ^ 64))) old e
    ∙ (rw (zero-add (s / 64)) at (set-sets d ws 0 (s / 64) (flipped ws s b) space inside))
    ∙ ap (sets d 0) (mask_of-flip n p s b h)
