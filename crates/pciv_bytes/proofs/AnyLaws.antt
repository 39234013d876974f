-- Laws of `any_from`: a search that goes on, from i up to `to`, with what was found before.
--   any_from-more, any_from-end    one number more; no number is left
--   any_from-none                 where nothing was found, no number has p
-- Axioms: none.
use mathlib.Core.Path.{◌≡◌, refl, ap, ◌∙◌}
use Prim.Native.Nat.{ℕ, zero, suc, ◌+◌, ◌-◌, ◌≤◌, ◌<◌}
use native.Mathlib.Numerals.{add-one}
use native.Mathlib.Omega.{arith}
use native.Mathlib.Decide.{dec_le}
use mathlib.Core.Bool.{Bool, true, false, ◌||◌}
use Rattle.pciv_bytes.specs.Any.{any_from}

or_assoc : (a b c : Bool) → a || (b || c) ≡ (a || b) || c
or_assoc true b c = refl
or_assoc false b c = refl

or-false : (a b : Bool) → a || b ≡ false → (a ≡ false) × (b ≡ false)
or-false true b e = let z : ◌≡◌ {A = ℕ} 0 1 = cc in absurd (omega arith)
or-false false b e = (refl, e)

or-none : (a : Bool) → a || false ≡ a
or-none true = refl
or-none false = refl

module _ (p : ℕ → Bool) (found : Bool) where
  -- one number more
  pub any_from-more : (i to : ℕ) → i < to
      → found || any_from p i (to - i) ≡ (found || p i) || any_from p (i + 1) (to - (i + 1))
  unfolding any_from
  any_from-more i to h =
      let e : to - i ≡ suc (to - (i + 1)) = omega arith in
      rw (e, add-one i) (or_assoc found (p i) (any_from p (suc i) (to - (suc i))))

  pub any_from-end : (i to : ℕ) → to ≤ i → found || any_from p i (to - i) ≡ found
  unfolding any_from
  any_from-end i to h = let e : to - i ≡ 0 = omega arith in rw e (or-none found)

-- none of the numbers has p
pub any_from-none : (p : ℕ → Bool) (c i : ℕ) → any_from p i c ≡ false → (j : ℕ) → i ≤ j → j < i + c → p j ≡ false
unfolding any_from
any_from-none p zero i none j h₁ h₂ = absurd (omega arith)
any_from-none p (suc c) i none j h₁ h₂ =
    let e = or-false (p i) (any_from p (suc i) c) none in
    elim (dec_le j i) [
      | yes d ↦ (let same : j ≡ i = omega arith in ap p same ∙ e.0)
      | no d ↦ any_from-none p c (suc i) e.1 j (omega arith) (omega arith)
    ]
