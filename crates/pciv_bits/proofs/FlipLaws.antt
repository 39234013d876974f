-- Laws of flipping one slot of a mask: the exclusive or of its word with a single bit, or with none.
--   flip_at p s b i     p, flipped at slot s where b holds;  flipped ws s b  the word of slot s so
--   mask_has-flip       the slots of words with one flipped
--   mask_of-flip        a mask with one slot flipped is a mask
-- Axioms: none.
use Rattle.std.proofs.Common.{◌≡◌, ℕ, ◌+◌, ◌-◌, ◌*◌, ◌/◌, ◌%◌, ◌^◌, ◌<◌, Bool, true, false, ◌&&◌, eqb, List, length, get_or, set, sym, refl, ap, ◌∙◌, ap₂, one-mul, zero-mul, arith, lit<, length-set, get_or-set_other, get_or-set_same, eq-eqb, ne_eqb}
use native.Mathlib.Nat.{mod_self}
use native.Mathlib.Decide.{dec_le}
use lib.Bits.{bit_xor, differ, xor_lt}
use Rattle.pciv_bytes.specs.Ranges.{flag}
use Rattle.pciv_format.specs.Mask.{bit_at, mask_has, mask_of}
use Rattle.pciv_format.proofs.PartsLaws.{and-false}
use Rattle.pciv_format.specs.Words.{Words}
use Rattle.pciv_format.proofs.BitLaws.{eqb-flag, bit_at-lowest, bit_at-shl, bit_at-mod, bit_at-xor, bit_at-past, bit_at-none}
use Rattle.pciv_format.proofs.MaskLaws.{mask_has-at, flag-mask_has, is_mask, length-mask_of, mask_of-words}
use Rattle.pciv_format.proofs.MaskLaws.{mask_has-mask_of, mask_has-mask_of-past, mask_of-unique}
use Rattle.pciv_bits.specs.Flags.{flip_if}

abbrev pub flip_at : (ℕ → Bool) → ℕ → Bool → ℕ → Bool
flip_at p s b i = flip_if (eqb i s && b) (p i)

-- ---- a single bit

-- no bit below the one that is set
up-below : (e j : ℕ) → j < e → bit_at (2 ^ e) j ≡ 0
up-below e j h = sym (bit_at-mod (2 ^ e) e j h) ∙ ap (λ (z : ℕ). bit_at z j) (mod_self (2 ^ e)) ∙ bit_at-none j

up-bit : (e j : ℕ) → bit_at (1 * 2 ^ e) j ≡ flag (eqb j e)
up-bit e j =
    elim (dec_le e j) [
      | yes d ↦ (let place : j ≡ e + (j - e) = omega arith in
          ap (bit_at (1 * 2 ^ e)) place ∙ bit_at-shl 1 e (j - e)
          ∙ elim (dec_le j e) [
            | yes d' ↦ (let z : j - e ≡ 0 = omega arith in
                rw (z, eq-eqb j e (omega arith)) (bit_at-lowest 1))
            | no d' ↦ rw (ne_eqb j e (λ q. omega arith)) (bit_at-past 1 1 (j - e) (lit< tt) (omega arith))
          ])
      | no d ↦ rw (one-mul (2 ^ e), ne_eqb j e (λ q. omega arith)) (up-below e j (omega arith))
    ]

-- bit e, or none, in a word of 64 bits
single-bit : (b : Bool) (e j : ℕ) → j < 64 → bit_at (flag b * 2 ^ e % 2 ^ 64) j ≡ flag (eqb j e && b)
single-bit true e j h = bit_at-mod (1 * 2 ^ e) 64 j h ∙ up-bit e j ∙ ap flag (sym (and-true (eqb j e)))
  where
    and-true : (a : Bool) → a && true ≡ a
    and-true true = refl
    and-true false = refl
single-bit false e j h =
    bit_at-mod (0 * 2 ^ e) 64 j h
    ∙ ap (λ (z : ℕ). bit_at z j) (zero-mul (2 ^ e))
    ∙ bit_at-none j
    ∙ ap flag (sym (and-false (eqb j e)))

-- ---- a slot of words

differ-flag : (a b : Bool) → differ (flag a) (flag b) ≡ flag (flip_if b a)
differ-flag true true = refl
differ-flag true false = refl
differ-flag false true = refl
differ-flag false false = refl

-- the word of slot s with the slot flipped where b holds
abbrev pub flipped : List ℕ → ℕ → Bool → ℕ
flipped ws s b = bit_xor (get_or ws (s / 64) 0) (flag b * 2 ^ (s % 64) % 2 ^ 64)

module _ (ws : List ℕ) (s : ℕ) (b : Bool) (inside : s / 64 < length ws) where
  flip-bit : (i : ℕ) → i / 64 ≡ s / 64 → bit_at (flipped ws s b) (i % 64) ≡ flag (flip_at (mask_has ws) s b i)
  flip-bit i word =
      let old : bit_at (get_or ws (s / 64) 0) (i % 64) ≡ flag (mask_has ws i) =
      sym (flag-mask_has ws (s / 64) (i % 64) (omega arith))
      ∙ ap (λ (k : ℕ). flag (mask_has ws k)) (let e : 64 * (s / 64) + i % 64 ≡ i = omega arith in e) in
      let here : eqb (i % 64) (s % 64) ≡ eqb i s = same-slot i word in
      bit_at-xor (get_or ws (s / 64) 0) (flag b * 2 ^ (s % 64) % 2 ^ 64) (i % 64)
      ∙ ap₂ differ old (single-bit b (s % 64) (i % 64) (omega arith) ∙ ap (λ (t : Bool). flag (t && b)) here)
      ∙ differ-flag (mask_has ws i) (eqb i s && b)
    where
      same-slot : (i : ℕ) → i / 64 ≡ s / 64 → eqb (i % 64) (s % 64) ≡ eqb i s
      same-slot i word =
          elim (dec_le i s) [
            | yes d ↦ elim (dec_le s i) [
              | yes d' ↦ (let e : i ≡ s = omega arith in rw e (eq-eqb (s % 64) (s % 64) refl ∙ sym (eq-eqb s s refl)))
              | no d' ↦ ne_eqb (i % 64) (s % 64) (λ q. omega arith) ∙ sym (ne_eqb i s (λ q. omega arith))
            ]
            | no d ↦ ne_eqb (i % 64) (s % 64) (λ q. omega arith) ∙ sym (ne_eqb i s (λ q. omega arith))
          ]

  pub mask_has-flip : (i : ℕ) → mask_has (set ws (s / 64) (flipped ws s b)) i ≡ flip_at (mask_has ws) s b i
  mask_has-flip i =
      elim (dec_le (i / 64) (s / 64)) [
        | yes d ↦ elim (dec_le (s / 64) (i / 64)) [
          | yes d' ↦ (let word : i / 64 ≡ s / 64 = omega arith in
              mask_has-at (set ws (s / 64) (flipped ws s b)) i (flipped ws s b) (flag (flip_at (mask_has ws) s b i))
              (rw word (get_or-set_same ws (s / 64) (flipped ws s b) 0 inside)) (flip-bit i word)
              ∙ eqb-flag (flip_at (mask_has ws) s b i))
          | no d' ↦ other i (λ q. omega arith)
        ]
        | no d ↦ other i (λ q. omega arith)
      ]
    where
      other : (i : ℕ) → (i / 64 ≡ s / 64 → ⊥) → mask_has (set ws (s / 64) (flipped ws s b)) i ≡ flip_at (mask_has ws) s b i
      other i ne =
          mask_has-at (set ws (s / 64) (flipped ws s b)) i (get_or ws (i / 64) 0) (bit_at (get_or ws (i / 64) 0) (i % 64))
          (get_or-set_other ws (s / 64) (i / 64) (flipped ws s b) 0 ne) refl
          ∙ sym (mask_has-at ws i (get_or ws (i / 64) 0) (bit_at (get_or ws (i / 64) 0) (i % 64)) refl refl)
          ∙ ap (λ (t : Bool). flip_if (t && b) (mask_has ws i)) (sym (ne_eqb i s (λ q. ne (ap (λ (z : ℕ). z / 64) q))))

  flip-words : Words ws → Words (set ws (s / 64) (flipped ws s b))
  flip-words words w =
      elim (dec_le w (s / 64)) [
        | yes d ↦ elim (dec_le (s / 64) w) [
          | yes d' ↦ (let e : w ≡ s / 64 = omega arith in
              rw (e, get_or-set_same ws (s / 64) (flipped ws s b) 0 inside)
              (xor_lt 64 (get_or ws (s / 64) 0) (flag b * 2 ^ (s % 64) % 2 ^ 64) (words (s / 64)) (omega arith)))
          | no d' ↦ rw (get_or-set_other ws (s / 64) w (flipped ws s b) 0 (λ q. omega arith)) (words w)
        ]
        | no d ↦ rw (get_or-set_other ws (s / 64) w (flipped ws s b) 0 (λ q. omega arith)) (words w)
      ]

-- ---- a slot of a mask

pub mask_of-flip : (n : ℕ) (p : ℕ → Bool) (s : ℕ) (b : Bool) → s < n
    → set (mask_of n p) (s / 64) (flipped (mask_of n p) s b) ≡ mask_of n (flip_at p s b)
mask_of-flip n p s b h =
    let ws : List ℕ = mask_of n p in
    let inside : s / 64 < length ws = rw (length-mask_of n p) (omega arith) in
    let after : List ℕ = set ws (s / 64) (flipped ws s b) in
    mask_of-unique n (flip_at p s b) after (flip-words ws s b inside (mask_of-words n p))
    (is_mask n after (length-set ws (s / 64) (flipped ws s b) ∙ length-mask_of n p)
    (λ i past l.
    mask_has-flip ws s b inside i
    ∙ rw (ne_eqb i s (λ q. omega arith)) (mask_has-mask_of-past n p i past)))
    (λ i within. mask_has-flip ws s b inside i ∙ ap (flip_if (eqb i s && b)) (mask_has-mask_of n p i within))
