-- Laws of words of flags: negated, all alike, and made one bit a turn; and of a mask written one or two words a turn.
--   ones_shr           the word of c set bits
--   word-flip          the word of flags, or of their negations
--   word-alike         the word of flags that are all alike
--   words-alike        words of a mask that are all alike, written at once
--   word_end, _more, _fits    a word made from its highest bit down
--   mask_word-is        word w of a mask, by the slots that it has
--   left-two, -mask    two words of a table written, and the last of a mask
-- Axioms: none.
use Rattle.std.proofs.Common.{◌≡◌, ℕ, zero, suc, ◌+◌, ◌-◌, ◌*◌, ◌/◌, ◌^◌, ◌<◌, ◌≤◌, min, Bool, true, false, cond, not, List, ◌++◌, length, set, drop, replicate, zero-add, sym, refl, ap, ◌∙◌, pow-suc, arith, pow_mono}
use lib.Seq.{sets}
use lib.Pow.{ones_split, ones_lt, high}
use Rattle.pciv_bytes.specs.Ranges.{flag, table}
use Rattle.pciv_bytes.proofs.RangesLaws.{flag-not, length-table}
use Rattle.pciv_format.specs.Mask.{mask_len, word, mask_of}
use Rattle.pciv_format.proofs.BitLaws.{word_lt}
use Rattle.pciv_format.proofs.MaskLaws.{mask_word, mask_of-table}
use Rattle.pciv_bytes.proofs.WriteLaws.{Left, left-start, left-part, left-more, left_end, sets-front}
use Rattle.pciv_bits.specs.Flags.{flip_if}

-- c set bits, as the highest bits of 64 moved down
pub ones_shr : (c : ℕ) → c ≤ 64 → (2 ^ 64 - 1) / 2 ^ (64 - c) ≡ 2 ^ c - 1
ones_shr c h =
    let e : c + (64 - c) ≡ 64 = omega arith in
    let parts : 2 ^ 64 - 1 ≡ (2 ^ c - 1) * 2 ^ (64 - c) + (2 ^ (64 - c) - 1) = rw e at (ones_split c (64 - c)) in
    ap (λ (x : ℕ). x / 2 ^ (64 - c)) parts ∙ high (2 ^ c - 1) (64 - c) (ones_lt (64 - c))

-- ---- a word and its negation

word-not : (p : ℕ → Bool) (i c : ℕ) → word p i c + word (λ (j : ℕ). not (p j)) i c + 1 ≡ 2 ^ c
unfolding word
word-not p i zero = refl
word-not p i (suc c) = rw (pow-suc 2 c) (omega (arith, word-not p (suc i) c, flag-not (p i)))

pub word-flip : (negated : Bool) (p : ℕ → Bool) (i c : ℕ)
    → cond negated (2 ^ c - 1 - word p i c) (word p i c) ≡ word (λ (j : ℕ). flip_if negated (p j)) i c
word-flip true p i c = omega (arith, word-not p i c)
word-flip false p i c = refl

-- ---- a word of bits that are all alike

word_none : (i c : ℕ) → word (λ (j : ℕ). false) i c ≡ 0
unfolding word
word_none i zero = refl
word_none i (suc c) = omega (arith, word_none (suc i) c)

pub word-alike : (b : Bool) (i c : ℕ) → cond b (2 ^ c - 1) 0 ≡ word (λ (j : ℕ). b) i c
word-alike true i c = omega (arith, word-not (λ (j : ℕ). true) i c, word_none i c)
word-alike false i c = sym (word_none i c)

-- ---- words that are all alike

table-alike : (f : ℕ → ℕ) (x i c : ℕ) → ((j : ℕ) → i ≤ j → j < i + c → f j ≡ x) → table f i c ≡ replicate c x
unfolding table
table-alike f x i zero same = refl
table-alike f x i (suc c) same =
    rw (same i (omega arith) (omega arith), table-alike f x (suc i) c (λ j h k. same j (omega arith) (omega arith)))

-- the first c words, each x, written to the front
pub words-alike : (f : ℕ → ℕ) (n x c : ℕ) (out words : List ℕ) → c ≤ n → c ≤ length out
    → ((j : ℕ) → j < c → f j ≡ x) → words ≡ replicate c x → Left f n out (words ++ drop c out) c
words-alike f n x c out words few long same is =
    let t : table f 0 c ≡ replicate c x = table-alike f x 0 c (λ j h k. same j (omega arith)) in
    rw zero-add at
    (left-part (left-start f n out) c (words ++ drop c out) (omega arith)
    (rw (is, ← t) (sym (rw length-table at (sets-front (table f 0 c) out (rw length-table (omega arith)))))))

-- ---- a word made from its highest bit down

pub word_end : (p : ℕ → Bool) (i to : ℕ) → to ≤ i → word p i (to - i) ≡ 0
unfolding word
word_end p i to h = let e : to - i ≡ 0 = omega arith in rw e

pub word_more : (p : ℕ → Bool) (i to : ℕ) → 0 < i → i ≤ to
    → 2 * word p i (to - i) + flag (p (i - 1)) ≡ word p (i - 1) (to - (i - 1))
unfolding word
word_more p i to pos h =
    let e : to - (i - 1) ≡ suc (to - i) = omega arith in
    let f : suc (i - 1) ≡ i = omega arith in
    rw (e, f) (omega arith)

-- a further bit fits
pub word_fits : (p : ℕ → Bool) (i c : ℕ) → c < 64 → word p i c < 2 ^ 63
word_fits p i c h =
    let m : 2 ^ c ≤ 2 ^ 63 = pow_mono {i = c} {j = 63} (omega arith) in
    omega (arith, word_lt p i c)

-- ---- a mask, word by word

-- c slots from i on, which are those of word w
pub mask_word-is : (n : ℕ) (p : ℕ → Bool) (w i c : ℕ) → i ≡ 64 * w → c ≡ min 64 (n - 64 * w)
    → word p i c ≡ mask_word n p w
mask_word-is n p w i c e f = rw (e, f)

-- two words written
pub left-two : {f : ℕ → ℕ} {n : ℕ} {out₀ out : List ℕ} {i : ℕ} → Left f n out₀ out i → (x y : ℕ) → i + 2 ≤ n → x ≡ f i
    → y ≡ f (i + 1) → Left f n out₀ (set (set out i x) (i + 1) y) (i + 2)
left-two {f} {n} {out₀} {out} {i} left x y h e g =
    let two : i + 1 + 1 ≡ i + 2 = omega arith in
    rw two at (left-more (left-more left x (omega arith) e) y (omega arith) g)

-- the last word written
pub left-mask : (n : ℕ) (p : ℕ → Bool) (out₀ out : List ℕ) (w : ℕ) → Left (mask_word n p) (mask_len n) out₀ out w
    → mask_len n ≤ w → out ≡ sets out₀ 0 (mask_of n p)
left-mask n p out₀ out w left h = left_end left h ∙ ap (sets out₀ 0) (sym (mask_of-table n p))
