-- Laws of `sum_from`. A sum from i up to `to` is written `sum_from f i (to - i)`.
--   sum_from-none, -more, -next    no term, the first term by itself, and the last one
--   sum_from-add, -split            a range in two
--   sum_from-le, -flag-le, -byte_is-le, -byte_at-le    at most b for each term; of flags and of bytes
--   sum_from-cong, -plus, -rest     of terms that agree, of two sums, and of flags and the others
--   sum_from-zeros                  of terms that are 0
--   sum_from-shift                  the same terms, from another place on
--   Added f to whole i sum         the invariant of a loop that adds up: `sum` and the terms from i on are the whole
--   added_none, added-part, added-one, added-all    no term, terms up to s, one term, and all
-- Axioms: none.
use mathlib.Core.Path.{◌≡◌, refl, ap, ap₂, ◌∙◌}
use mathlib.Core.Bool.{Bool}
use mathlib.Core.List.{List}
use Prim.Native.Nat.{ℕ, zero, suc, ◌+◌, ◌-◌, ◌*◌, ◌≤◌, ◌<◌}
use native.Mathlib.Nat.{zero-add, add-zero}
use native.Mathlib.Numerals.{add-one}
use native.Mathlib.Omega.{arith}
use lib.Dec.{eqb}
use Rattle.pciv_bytes.specs.Ranges.{flag, sum_from}
use Rattle.pciv_bytes.specs.LittleEndian.{Bytes}
use Rattle.pciv_bytes.specs.ByteAt.{byte_at, byte_is}
use Rattle.pciv_bytes.proofs.RangesLaws.{flag-le}

pub sum_from-none : (f : ℕ → ℕ) (i to : ℕ) → to ≤ i → sum_from f i (to - i) ≡ 0
unfolding sum_from
sum_from-none f i to h = let e : to - i ≡ 0 = omega arith in rw e

pub sum_from-more : (f : ℕ → ℕ) (i to : ℕ) → i < to → sum_from f i (to - i) ≡ f i + sum_from f (i + 1) (to - (i + 1))
unfolding sum_from
sum_from-more f i to h = let e : to - i ≡ suc (to - (i + 1)) = omega arith in rw (e, add-one i)

-- m terms and n more
pub sum_from-add : (f : ℕ → ℕ) (m i n : ℕ) → sum_from f i (m + n) ≡ sum_from f i m + sum_from f (i + m) n
unfolding sum_from
sum_from-add f zero i n = rw (zero-add n, add-zero i, zero-add (sum_from f i n))
sum_from-add f (suc m) i n =
    let e : suc m + n ≡ suc (m + n) = omega arith in
    let g : i + suc m ≡ suc i + m = omega arith in
    rw (e, g) (omega (arith, sum_from-add f m (suc i) n))

-- the last term by itself
pub sum_from-next : (f : ℕ → ℕ) (c : ℕ) → sum_from f 0 (c + 1) ≡ sum_from f 0 c + f c
unfolding sum_from
sum_from-next f c = sum_from-add f c 0 1 ∙ rw (zero-add c, add-zero (f c))

-- a range in two
pub sum_from-split : (f : ℕ → ℕ) (i s to : ℕ) → i ≤ s → s ≤ to
    → sum_from f i (to - i) ≡ sum_from f i (s - i) + sum_from f s (to - s)
sum_from-split f i s to h₁ h₂ =
    let e : to - i ≡ (s - i) + (to - s) = omega arith in
    let g : i + (s - i) ≡ s = omega arith in
    rw e (sum_from-add f (s - i) i (to - s) ∙ rw g)

-- each term at most b
pub sum_from-le : (f : ℕ → ℕ) (b : ℕ) → ((j : ℕ) → f j ≤ b) → (i c : ℕ) → sum_from f i c ≤ b * c
unfolding sum_from
sum_from-le f b each i zero = omega arith
sum_from-le f b each i (suc c) = omega (arith, each i, sum_from-le f b each (suc i) c)

-- no more numbers pass a test than there are
pub sum_from-flag-le : (p : ℕ → Bool) (i c : ℕ) → sum_from (λ (j : ℕ). flag (p j)) i c ≤ c
sum_from-flag-le p i c = omega (arith, sum_from-le (λ (j : ℕ). flag (p j)) 1 (λ j. flag-le (p j)) i c)

-- no more bytes are x than there are bytes, and a sum of bytes is at most 255 for each
pub sum_from-byte_is-le : (xs : List ℕ) (x i c : ℕ) → sum_from (byte_is xs x) i c ≤ c
sum_from-byte_is-le xs x i c = sum_from-flag-le (λ (j : ℕ). eqb (byte_at xs j) x) i c

pub sum_from-byte_at-le : (xs : List ℕ) → Bytes xs → (i c : ℕ) → sum_from (byte_at xs) i c ≤ 255 * c
sum_from-byte_at-le xs bytes i c = sum_from-le (byte_at xs) 255 (λ j. omega (arith, bytes j)) i c

pub sum_from-cong : (f g : ℕ → ℕ) (i c : ℕ) → ((j : ℕ) → i ≤ j → j < i + c → f j ≡ g j) → sum_from f i c ≡ sum_from g i c
unfolding sum_from
sum_from-cong f g i zero same = refl
sum_from-cong f g i (suc c) same =
    ap₂ (λ (x y : ℕ). x + y) (same i (omega arith) (omega arith))
    (sum_from-cong f g (suc i) c (λ j h₁ h₂. same j (omega arith) (omega arith)))

pub sum_from-zeros : (f : ℕ → ℕ) (i c : ℕ) → ((j : ℕ) → i ≤ j → j < i + c → f j ≡ 0) → sum_from f i c ≡ 0
unfolding sum_from
sum_from-zeros f i zero none = refl
sum_from-zeros f i (suc c) none =
    omega (
      arith,
      none i (omega arith) (omega arith),
      sum_from-zeros f (suc i) c (λ j h₁ h₂. none j (omega arith) (omega arith)),
    )

-- of c flags, those that are set and those that are not
pub sum_from-rest : (f g : ℕ → ℕ) → ((j : ℕ) → f j + g j ≡ 1) → (i c : ℕ) → sum_from f i c + sum_from g i c ≡ c
unfolding sum_from
sum_from-rest f g each i zero = refl
sum_from-rest f g each i (suc c) = omega (arith, each i, sum_from-rest f g each (suc i) c)

-- two sums, term by term
pub sum_from-plus : (f g h : ℕ → ℕ) (i c : ℕ) → ((j : ℕ) → i ≤ j → j < i + c → f j + g j ≡ h j)
    → sum_from f i c + sum_from g i c ≡ sum_from h i c
unfolding sum_from
sum_from-plus f g h i zero each = refl
sum_from-plus f g h i (suc c) each =
    omega (
      arith,
      each i (omega arith) (omega arith),
      sum_from-plus f g h (suc i) c (λ j h₁ h₂. each j (omega arith) (omega arith)),
    )

-- the same terms, from another place on
pub sum_from-shift : (f g : ℕ → ℕ) (i t c : ℕ) → ((j : ℕ) → f (i + j) ≡ g (t + j)) → sum_from f i c ≡ sum_from g t c
unfolding sum_from
sum_from-shift f g i t zero same = refl
sum_from-shift f g i t (suc c) same =
    ap₂ (λ (x y : ℕ). x + y) (rw (add-zero i, add-zero t) at (same 0))
    (sum_from-shift f g (suc i) (suc t) c (λ j. ap f (omega arith) ∙ same (suc j) ∙ ap g (omega arith)))

-- ---- a sum that is made piece by piece

-- `sum` and the terms from i up to `to` are the whole
pub record Added (f : ℕ → ℕ) (to whole i sum : ℕ) : Type 0 where
  pub inside : i ≤ to
  pub rest : sum + sum_from f i (to - i) ≡ whole

pub added_none : (f : ℕ → ℕ) (from to : ℕ) → from ≤ to → Added f to (sum_from f from (to - from)) from 0
added_none f from to h = record { inside = h; rest = zero-add (sum_from f from (to - from)) }

module _ {f : ℕ → ℕ} {to whole i sum : ℕ} (a : Added f to whole i sum) where
  -- with the terms up to s
  pub added-part : (s : ℕ) → i ≤ s → s ≤ to → Added f to whole s (sum + sum_from f i (s - i))
  added-part s h₁ h₂ = record { inside = h₂; rest = omega (arith, a.rest, sum_from-split f i s to h₁ h₂) }

  -- with one term
  pub added-one : i < to → Added f to whole (i + 1) (sum + f i)
  added-one h = record { inside = omega arith; rest = omega (arith, a.rest, sum_from-more f i to h) }

  pub added-all : to ≤ i → sum ≡ whole
  added-all h = omega (arith, a.rest, sum_from-none f i to h)
