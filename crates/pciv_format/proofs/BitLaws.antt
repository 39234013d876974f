-- Laws of the bits of a number, and of the word made of given bits.
--   eqb-flag, flag-bit_at   a bit and its test;  bit_at-le  a bit is 0 or 1
--   bit_at-lowest, -suc     the lowest bit, and the others one by one
--   bit_at-shr, -shl, -mod, -and, -or, -xor    the bits of a shifted, cut or combined number
--   bit_at-past, -none      a number below 2 ^ c has no bits from c on, and 0 has none
--   bits-inj, bits_none    numbers below 2 ^ c with the same c bits are equal
--   word_lt, word-cong     the word of c bits is below 2 ^ c, and the same where they are
--   bit_at-word, -past      its bits;  word-unique  no other number below 2 ^ c has them
--   trailing-bit, _lt      the bit above the trailing zeros is set, and its place is below the number of bits
--   half_pos               where the lowest bit is not set, it is one of the half
--   less-lt, -lowest, _other    x & (x - 1) is less than x: the lowest set bit is not left, and all others are
--   less-even, -odd        x & (x - 1) by halves
--   ones-bits              the count of ones is the sum of the bits
-- Axioms: none.
use mathlib.Core.Path.{◌≡◌, refl, sym, ap, ◌∙◌}
use mathlib.Core.Bool.{Bool, true, false}
use Prim.Native.Nat.{ℕ, zero, suc, ◌+◌, ◌-◌, ◌*◌, ◌/◌, ◌%◌, ◌^◌, ◌≤◌, ◌<◌, min, max}
use native.Mathlib.Nat.{pow-suc, add-zero, zero-add, div-one, div-eq_of_lt}
use native.Mathlib.Omega.{arith}
use native.Mathlib.Decide.{dec_le}
use lib.Bits.{bit_and, bit_or, bit_xor, differ, and_step, and_self, and_le_r, or_step, xor_step, and_shr, or_shr, xor_shr}
use lib.Count.{ones, ones_step, ones-le, count_trailing_zeros, under}
use lib.Dec.{eqb, lit<}
use lib.Pow.{shr-shr, shl-shr, field, mod-mod-pow, pow_mono}
use Rattle.pciv_bytes.specs.Ranges.{flag, sum_from}
use Rattle.pciv_bytes.proofs.RangesLaws.{flag-le}
use Rattle.pciv_bytes.proofs.SumLaws.{sum_from-shift}
use Rattle.pciv_format.specs.Mask.{bit_at, word}

-- ---- bits and flags

pub eqb-flag : (b : Bool) → eqb (flag b) 1 ≡ b
eqb-flag true = refl
eqb-flag false = refl

flag_one : (x : ℕ) → x ≤ 1 → flag (eqb x 1) ≡ x
flag_one zero h = refl
flag_one (suc zero) h = refl
flag_one (suc (suc x)) h = absurd (omega arith)

pub bit_at-le : (x j : ℕ) → bit_at x j ≤ 1
unfolding bit_at
bit_at-le x j = omega arith

-- a bit, tested, is that bit
pub flag-bit_at : (x j : ℕ) → flag (eqb (bit_at x j) 1) ≡ bit_at x j
flag-bit_at x j = flag_one (bit_at x j) (bit_at-le x j)

-- ---- the bits of a number

pub bit_at-lowest : (x : ℕ) → bit_at x 0 ≡ x % 2
unfolding bit_at
bit_at-lowest x = rw (div-one x)

pub bit_at-shr : (x k j : ℕ) → bit_at (x / 2 ^ k) j ≡ bit_at x (k + j)
unfolding bit_at
bit_at-shr x k j = rw (shr-shr x k j)

pub bit_at-suc : (x j : ℕ) → bit_at x (suc j) ≡ bit_at (x / 2) j
bit_at-suc x j = let e : suc j ≡ 1 + j = omega arith in rw e (sym (bit_at-shr x 1 j))

pub bit_at-shl : (x k j : ℕ) → bit_at (x * 2 ^ k) (k + j) ≡ bit_at x j
bit_at-shl x k j = sym (bit_at-shr (x * 2 ^ k) k j) ∙ ap (λ (z : ℕ). bit_at z j) (shl-shr x k)

bit_at-field : (x j r : ℕ) → bit_at (x % 2 ^ (suc r + j)) j ≡ bit_at x j
unfolding bit_at
bit_at-field x j r = rw (field x (suc r) j) (let e : suc r ≡ r + 1 = omega arith in rw e (mod-mod-pow (x / 2 ^ j) r 1))

pub bit_at-mod : (x c j : ℕ) → j < c → bit_at (x % 2 ^ c) j ≡ bit_at x j
bit_at-mod x c j h = let e : c ≡ suc (c - suc j) + j = omega arith in rw e (bit_at-field x j (c - suc j))

pub bit_at-and : (x y j : ℕ) → bit_at (bit_and x y) j ≡ min (bit_at x j) (bit_at y j)
unfolding bit_at
bit_at-and x y j = rw (and_shr x y j) (omega (arith, and_step (x / 2 ^ j) (y / 2 ^ j)))

pub bit_at-or : (x y j : ℕ) → bit_at (bit_or x y) j ≡ max (bit_at x j) (bit_at y j)
unfolding bit_at
bit_at-or x y j = rw (or_shr x y j) (omega (arith, or_step (x / 2 ^ j) (y / 2 ^ j)))

differ-le : (x y : ℕ) → x ≤ 1 → y ≤ 1 → differ x y ≤ 1
differ-le zero y h k = k
differ-le (suc x) zero h k = h
differ-le (suc x) (suc y) h k = differ-le x y (omega arith) (omega arith)

pub bit_at-xor : (x y j : ℕ) → bit_at (bit_xor x y) j ≡ differ (bit_at x j) (bit_at y j)
unfolding bit_at
bit_at-xor x y j =
    let low = differ-le (x / 2 ^ j % 2) (y / 2 ^ j % 2) (omega arith) (omega arith) in
    rw (xor_shr x y j) (omega (arith, xor_step (x / 2 ^ j) (y / 2 ^ j), low))

-- a number below 2 ^ c has no bits from c on
pub bit_at-past : (x c j : ℕ) → x < 2 ^ c → c ≤ j → bit_at x j ≡ 0
unfolding bit_at
bit_at-past x c j small past =
    let m : 2 ^ c ≤ 2 ^ j = pow_mono {i = c} {j = j} past in
    let e : x / 2 ^ j ≡ 0 = div-eq_of_lt (omega arith) in
    rw e

-- two numbers with the same c bits
pub bits-inj : (c x y : ℕ) → x < 2 ^ c → y < 2 ^ c → ((j : ℕ) → j < c → bit_at x j ≡ bit_at y j) → x ≡ y
bits-inj zero x y hx hy same = omega arith
bits-inj (suc c) x y hx hy same =
    let p : 2 ^ suc c ≡ 2 ^ c * 2 = pow-suc 2 c in
    let high =
    bits-inj c (x / 2) (y / 2) (omega arith) (omega arith)
    (λ j h. sym (bit_at-suc x j) ∙ same (suc j) (omega arith) ∙ bit_at-suc y j) in
    let low : x % 2 ≡ y % 2 = sym (bit_at-lowest x) ∙ same 0 (omega arith) ∙ bit_at-lowest y in
    omega arith

pub bit_at-none : (j : ℕ) → bit_at 0 j ≡ 0
bit_at-none j = bit_at-past 0 0 j (lit< tt) (omega arith)

-- a number without bits
pub bits_none : (c x : ℕ) → x < 2 ^ c → ((j : ℕ) → j < c → bit_at x j ≡ 0) → x ≡ 0
bits_none c x small none = bits-inj c x 0 small (omega (arith, small)) (λ j h. none j h ∙ sym (bit_at-none j))

-- ---- the word of c bits

pub word_lt : (p : ℕ → Bool) (i c : ℕ) → word p i c < 2 ^ c
unfolding word
word_lt p i zero = lit< tt
word_lt p i (suc c) = rw (pow-suc 2 c) (omega (arith, flag-le (p i), word_lt p (suc i) c))

pub bit_at-word : (p : ℕ → Bool) (i c j : ℕ) → j < c → bit_at (word p i c) j ≡ flag (p (i + j))
unfolding word
bit_at-word p i zero j h = absurd (omega arith)
bit_at-word p i (suc c) zero h =
    bit_at-lowest (flag (p i) + 2 * word p (suc i) c) ∙ rw (add-zero i) (omega (arith, flag-le (p i)))
bit_at-word p i (suc c) (suc j) h =
    let half : (flag (p i) + 2 * word p (suc i) c) / 2 ≡ word p (suc i) c = omega (arith, flag-le (p i)) in
    let next : i + suc j ≡ suc i + j = omega arith in
    bit_at-suc (flag (p i) + 2 * word p (suc i) c) j ∙ rw (half, next) (bit_at-word p (suc i) c j (omega arith))

pub bit_at-word-past : (p : ℕ → Bool) (i c j : ℕ) → c ≤ j → bit_at (word p i c) j ≡ 0
bit_at-word-past p i c j past = bit_at-past (word p i c) c j (word_lt p i c) past

-- the only number below 2 ^ c with these bits
pub word-unique : (p : ℕ → Bool) (i c x : ℕ) → x < 2 ^ c → ((j : ℕ) → j < c → bit_at x j ≡ flag (p (i + j)))
    → x ≡ word p i c
word-unique p i c x small same =
    bits-inj c x (word p i c) small (word_lt p i c) (λ j h. same j h ∙ sym (bit_at-word p i c j h))

pub word-cong : (p q : ℕ → Bool) (i c : ℕ) → ((j : ℕ) → i ≤ j → j < i + c → p j ≡ q j) → word p i c ≡ word q i c
word-cong p q i c same =
    word-unique q i c (word p i c) (word_lt p i c)
    (λ j h. bit_at-word p i c j h ∙ ap flag (same (i + j) (omega arith) (omega arith)))

-- ---- the lowest set bit: the number of zeros below it is its place

pub half_pos : (c x : ℕ) → 0 < x → x < 2 ^ suc c → x % 2 ≡ 0 → (0 < x / 2) × (x / 2 < 2 ^ c)
half_pos c x pos small even = let p : 2 ^ suc c ≡ 2 ^ c * 2 = pow-suc 2 c in (omega arith, omega arith)

pub trailing-bit : (c x : ℕ) → 0 < x → x < 2 ^ c → bit_at x (count_trailing_zeros c x) ≡ 1
unfolding count_trailing_zeros
trailing-bit zero x pos small = absurd (omega arith)
trailing-bit (suc c) x pos small = go (x % 2) refl (trailing-bit c (x / 2))
  where
    go : (d : ℕ) → x % 2 ≡ d → (0 < x / 2 → x / 2 < 2 ^ c → bit_at (x / 2) (count_trailing_zeros c (x / 2)) ≡ 1)
        → bit_at x (under d (count_trailing_zeros c (x / 2))) ≡ 1
    go zero e rest =
        let h = half_pos c x pos small e in
        bit_at-suc x (count_trailing_zeros c (x / 2)) ∙ rest h.0 h.1
    go (suc d) e rest = bit_at-lowest x ∙ omega arith

pub trailing_lt : (c x : ℕ) → 0 < x → x < 2 ^ c → count_trailing_zeros c x < c
trailing_lt c x pos small =
    elim (dec_le c (count_trailing_zeros c x)) [
      | yes past ↦ absurd (omega (arith, trailing-bit c x pos small, bit_at-past x c (count_trailing_zeros c x) small past))
      | no d ↦ omega arith
    ]

-- x & (x - 1) is x without it; as a number less
pub less-lt : (x : ℕ) → 0 < x → bit_and x (x - 1) < x
less-lt x pos = omega (arith, and_le_r x (x - 1))

-- halved: the same of x / 2 where x is even, else x / 2
pub less-even : (x : ℕ) → 0 < x → x % 2 ≡ 0
    → (bit_and x (x - 1) % 2 ≡ 0) × (bit_and x (x - 1) / 2 ≡ bit_and (x / 2) (x / 2 - 1))
less-even x pos even =
    let below : (x - 1) / 2 ≡ x / 2 - 1 = omega arith in
    let step : bit_and x (x - 1) ≡ bit_and (x / 2) ((x - 1) / 2) * 2 + min (x % 2) ((x - 1) % 2) = and_step x (x - 1) in
    let is : bit_and x (x - 1) ≡ bit_and (x / 2) (x / 2 - 1) * 2 + min (x % 2) ((x - 1) % 2) = step ∙ rw below in
    (omega arith, omega arith)

pub less-odd : (x : ℕ) → x % 2 ≡ 1 → (bit_and x (x - 1) % 2 ≡ 0) × (bit_and x (x - 1) / 2 ≡ x / 2)
less-odd x odd =
    let below : (x - 1) / 2 ≡ x / 2 = omega arith in
    let step : bit_and x (x - 1) ≡ bit_and (x / 2) ((x - 1) / 2) * 2 + min (x % 2) ((x - 1) % 2) = and_step x (x - 1) in
    let is : bit_and x (x - 1) ≡ x / 2 * 2 + min (x % 2) ((x - 1) % 2) = step ∙ rw (below, and_self (x / 2)) in
    (omega arith, omega arith)

-- the lowest set bit is not left
pub less-lowest : (c x : ℕ) → 0 < x → x < 2 ^ c → bit_at (bit_and x (x - 1)) (count_trailing_zeros c x) ≡ 0
unfolding count_trailing_zeros
less-lowest zero x pos small = absurd (omega arith)
less-lowest (suc c) x pos small = go (x % 2) refl (less-lowest c (x / 2))
  where
    go : (d : ℕ) → x % 2 ≡ d
        → (0 < x / 2 → x / 2 < 2 ^ c → bit_at (bit_and (x / 2) (x / 2 - 1)) (count_trailing_zeros c (x / 2)) ≡ 0)
        → bit_at (bit_and x (x - 1)) (under d (count_trailing_zeros c (x / 2))) ≡ 0
    go zero e rest =
        let h = half_pos c x pos small e in
        let t : ℕ = count_trailing_zeros c (x / 2) in
        bit_at-suc (bit_and x (x - 1)) t ∙ ap (λ (y : ℕ). bit_at y t) (less-even x pos e).1 ∙ rest h.0 h.1
    go (suc d) e rest = bit_at-lowest (bit_and x (x - 1)) ∙ (less-odd x (omega arith)).0

-- all other bits are
pub less_other : (c x j : ℕ) → 0 < x → x < 2 ^ c → (j ≡ count_trailing_zeros c x → ⊥) → bit_at (bit_and x (x - 1)) j ≡ bit_at x j
unfolding count_trailing_zeros
less_other zero x j pos small other = absurd (omega arith)
less_other (suc c) x j pos small other = go (x % 2) refl j other (less_other c (x / 2))
  where
    go : (d : ℕ) → x % 2 ≡ d → (j : ℕ) → (j ≡ under d (count_trailing_zeros c (x / 2)) → ⊥)
        → ((k : ℕ) → 0 < x / 2 → x / 2 < 2 ^ c → (k ≡ count_trailing_zeros c (x / 2) → ⊥)
        → bit_at (bit_and (x / 2) (x / 2 - 1)) k ≡ bit_at (x / 2) k)
        → bit_at (bit_and x (x - 1)) j ≡ bit_at x j
    go zero e zero other rest =
        bit_at-lowest (bit_and x (x - 1)) ∙ (less-even x pos e).0 ∙ sym (bit_at-lowest x ∙ e)
    go zero e (suc k) other rest =
        let h = half_pos c x pos small e in
        bit_at-suc (bit_and x (x - 1)) k
        ∙ ap (λ (y : ℕ). bit_at y k) (less-even x pos e).1
        ∙ rest k h.0 h.1 (λ q. other (ap suc q))
        ∙ sym (bit_at-suc x k)
    go (suc d) e zero other rest = absurd (other refl)
    go (suc d) e (suc k) other rest =
        bit_at-suc (bit_and x (x - 1)) k
        ∙ ap (λ (y : ℕ). bit_at y k) (less-odd x (omega arith)).1
        ∙ sym (bit_at-suc x k)

-- ---- the count of ones

pub ones-bits : (c x : ℕ) → x < 2 ^ c → ones x ≡ sum_from (bit_at x) 0 c
unfolding sum_from
ones-bits zero x small = omega (arith, ones-le 0 x small)
ones-bits (suc c) x small =
    let p : 2 ^ suc c ≡ 2 ^ c * 2 = pow-suc 2 c in
    let rest : sum_from (bit_at x) 1 c ≡ sum_from (bit_at (x / 2)) 0 c =
    sum_from-shift (bit_at x) (bit_at (x / 2)) 1 0 c (λ j. rw (zero-add j) (sym (bit_at-shr x 1 j))) in
    omega (arith, ones_step x, ones-bits c (x / 2) (omega arith), bit_at-lowest x)
