-- What the word operations are on masks.
--   combined-words, flipped-words    the words of and, or, exclusive or, and of not, are those of a mask
--   flip-full, -last    not, of a word that the slots fill, and of the last one where they do not
-- Axioms: none.
use mathlib.Core.Path.{◌≡◌, refl, sym, ap, ap₂, ◌∙◌}
use Prim.Native.Nat.{ℕ, zero, suc, ◌+◌, ◌-◌, ◌*◌, ◌/◌, ◌%◌, ◌^◌, ◌≤◌, ◌<◌, min, max}
use native.Mathlib.Nat.{pow-suc, one-mul, mod-eq_of_lt}
use native.Mathlib.Omega.{arith}
use mathlib.Core.Bool.{Bool, true, false, not, xor}
use mathlib.Core.List.{List}
use lib.ListN.{get_or}
use lib.Bits.{bit_xor, differ, and_lt, or_lt, xor_lt}
use lib.Pow.{pow_pos, pow-lt, pow_mono}
use Rattle.std.proofs.lemmas.Bool.Decides.{nat_tests}
use Rattle.pciv_bytes.specs.Ranges.{flag, table}
use Rattle.pciv_format.specs.Mask.{mask_len, bit_at, mask_has, word, mask_of, combined}
use Rattle.pciv_format.specs.declared.MaskOp.{MaskOp}
use Rattle.pciv_format.specs.declared.MaskOp.TheVariants.{And, Or, Xor}
use Rattle.pciv_format.specs.Words.{Words, IsMask}
use Rattle.pciv_format.proofs.BitLaws.{bit_at-and, bit_at-or, bit_at-xor, bit_at-word, bit_at-word-past}
use Rattle.pciv_format.proofs.MaskLaws.{flag-mask_has, table-mask_of}
use Rattle.pciv_mask_logic.specs.Logic.{bit_op, op_at, low_bits, flip_at}

-- ---- and, or, exclusive or

-- the operation on two bits
abbrev flag_op : MaskOp → ℕ → ℕ → ℕ
flag_op And x y = min x y
flag_op Or x y = max x y
flag_op Xor x y = differ x y

flag_op-flag : (op : MaskOp) (p q : Bool) → flag_op op (flag p) (flag q) ≡ flag (combined op p q)
unfolding xor
flag_op-flag And p q = grind (arith, nat_tests)
flag_op-flag Or p q = grind (arith, nat_tests)
flag_op-flag Xor p q = grind (arith, nat_tests)

bit_at-op : (op : MaskOp) (x y j : ℕ) → bit_at (bit_op op x y) j ≡ flag_op op (bit_at x j) (bit_at y j)
bit_at-op And x y j = bit_at-and x y j
bit_at-op Or x y j = bit_at-or x y j
bit_at-op Xor x y j = bit_at-xor x y j

bit_op-lt : (op : MaskOp) (c x y : ℕ) → x < 2 ^ c → y < 2 ^ c → bit_op op x y < 2 ^ c
bit_op-lt And = and_lt
bit_op-lt Or = or_lt
bit_op-lt Xor = xor_lt

-- of two bits that are not set
combined-none : (op : MaskOp) → combined op false false ≡ false
unfolding xor
combined-none And = refl
combined-none Or = refl
combined-none Xor = refl

pub combined-words : (op : MaskOp) (n : ℕ) (xs ys : List ℕ) → Words xs → Words ys → IsMask n xs → IsMask n ys
    → table (op_at op xs ys) 0 (mask_len n) ≡ mask_of n (λ i. combined op (mask_has xs i) (mask_has ys i))
combined-words op n xs ys words-x words-y mask-x mask-y =
    table-mask_of n (λ i. combined op (mask_has xs i) (mask_has ys i)) (op_at op xs ys)
    (λ w. bit_op-lt op 64 (get_or xs w 0) (get_or ys w 0) (words-x w) (words-y w)) (λ w j h l. bit w j h)
    (λ w j h l.
    bit w j h ∙ ap₂ (λ (p q : Bool). flag (combined op p q)) (mask-x.past (64 * w + j) l) (mask-y.past (64 * w + j) l)
    ∙ ap flag (combined-none op))
  where
    bit : (w j : ℕ) → j < 64
        → bit_at (op_at op xs ys w) j ≡ flag (combined op (mask_has xs (64 * w + j)) (mask_has ys (64 * w + j)))
    bit w j h =
        bit_at-op op (get_or xs w 0) (get_or ys w 0) j
        ∙ ap₂ (flag_op op) (sym (flag-mask_has xs w j h)) (sym (flag-mask_has ys w j h))
        ∙ flag_op-flag op (mask_has xs (64 * w + j)) (mask_has ys (64 * w + j))

-- ---- not

low_bits-word : (i c : ℕ) → low_bits c ≡ word (λ k. true) i c
unfolding word
low_bits-word i zero = refl
low_bits-word i (suc c) = rw (← low_bits-word (suc i) c, pow-suc 2 c) (omega (arith, pow_pos c))

differ-one : (b : Bool) → differ (flag b) 1 ≡ flag (not b)
differ-one true = refl
differ-one false = refl

pub flipped-words : (n : ℕ) (ws : List ℕ) → Words ws → IsMask n ws
    → table (flip_at n ws) 0 (mask_len n) ≡ mask_of n (λ i. not (mask_has ws i))
flipped-words n ws words mask =
    table-mask_of n (λ i. not (mask_has ws i)) (flip_at n ws)
    (λ w. xor_lt 64 (get_or ws w 0) (low_bits (min 64 (n - 64 * w))) (words w) (low-lt w))
    (λ w j h l.
    let c : ℕ = min 64 (n - 64 * w) in
    bit w j h 1 (ap (λ (x : ℕ). bit_at x j) (low_bits-word 0 c) ∙ bit_at-word (λ k. true) 0 c j (omega arith))
    ∙ differ-one (mask_has ws (64 * w + j)))
    (λ w j h l.
    let c : ℕ = min 64 (n - 64 * w) in
    bit w j h 0 (ap (λ (x : ℕ). bit_at x j) (low_bits-word 0 c) ∙ bit_at-word-past (λ k. true) 0 c j (omega arith))
    ∙ ap (λ (b : Bool). differ (flag b) 0) (mask.past (64 * w + j) l))
  where
    low-lt : (w : ℕ) → low_bits (min 64 (n - 64 * w)) < 2 ^ 64
    low-lt w =
        let m : 2 ^ min 64 (n - 64 * w) ≤ 2 ^ 64 = pow_mono {i = min 64 (n - 64 * w)} {j = 64} (omega arith) in
        omega (arith, pow_pos (min 64 (n - 64 * w)))

    bit : (w j : ℕ) → j < 64 → (b : ℕ) → bit_at (low_bits (min 64 (n - 64 * w))) j ≡ b
        → bit_at (flip_at n ws w) j ≡ differ (flag (mask_has ws (64 * w + j))) b
    bit w j h b e =
        bit_at-xor (get_or ws w 0) (low_bits (min 64 (n - 64 * w))) j ∙ ap₂ differ (sym (flag-mask_has ws w j h)) e

-- a word that the slots fill
pub flip-full : (n : ℕ) (ws : List ℕ) (w : ℕ) → 64 * w + 64 ≤ n
    → bit_xor (get_or ws w 0) 0xFFFFFFFFFFFFFFFF ≡ flip_at n ws w
flip-full n ws w full =
    let e : 64 ≡ min 64 (n - 64 * w) = omega arith in ap (λ (c : ℕ). bit_xor (get_or ws w 0) (low_bits c)) e

-- the last word, where the slots do not fill it
pub flip-last : (n : ℕ) (ws : List ℕ) (w : ℕ) → w ≡ n / 64
    → bit_xor (get_or ws w 0) (1 * 2 ^ (n % 64) % 2 ^ 64 - 1) ≡ flip_at n ws w
flip-last n ws w last =
    let e : n % 64 ≡ min 64 (n - 64 * w) = omega arith in
    let one : 2 ^ (n % 64) < 2 ^ 64 = pow-lt {i = n % 64} {j = 64} (omega arith) in
    rw (one-mul (2 ^ (n % 64)), mod-eq_of_lt one) (ap (λ (c : ℕ). bit_xor (get_or ws w 0) (low_bits c)) e)
