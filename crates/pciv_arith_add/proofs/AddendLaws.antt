-- What is added to the distances of a map P: those of a second map Q, or one number.
--   checked-maps                 two checked files of bytes
--   added-low, -high             the result is from the distance of P to the sum
--   added-sum                    and the sum where it is not 0
--   cursor_of-start, -to, -gap    the laws of the cursor in Q, where there may be none
--   next_of-low, -le              the next slot with an entry of Q is not before the cursor, nor behind the last slot
--   addend-gap                   before that slot what is added is small
-- Axioms: none.
use mathlib.Core.Path.{◌≡◌, refl}
use Prim.Native.Nat.{ℕ, ◌+◌, ◌^◌, ◌≤◌, ◌<◌}
use native.Mathlib.Omega.{arith}
use mathlib.Core.List.{List}
use lib.ListN.{get_or}
use mir.Syntax.{w8}
use mir.Val.{Fits}
use native.Mathlib.Decide.{ℕ_discrete}
use borrow.Author.Tests.{ne_eqb}
use Rattle.pciv_format.specs.Parts.{Parts, value_of}
use Rattle.pciv_check.specs.Pair.{CheckedPair}
use Rattle.pciv_check.proofs.SoundPairLaws.{SoundPair, Maps}
use Rattle.pciv_map.proofs.CursorLaws.{cursor-start, cursor-to, cursor-gap, next_slot-low, next_slot-le, gap-small}
use Rattle.pciv_arith_add.specs.Addition.{addend_at, added_at, CursorOf, next_of, Small}
use Rattle.pciv_arith_add.specs.declared.addend.Addend.{Addend}
use Rattle.pciv_arith_add.specs.declared.addend.Addend.TheVariants.{Map, Number}

pub checked-maps : {a b : List ℕ} {n ka kb : ℕ} → CheckedPair a b n ka kb → ((i : ℕ) → Fits w8 (get_or a i 0))
    → ((i : ℕ) → Fits w8 (get_or b i 0)) → Maps a b n ka kb
checked-maps p a b = record { pair = p; bytes-a = λ i. (a i).fits; bytes-b = λ i. (b i).fits }

-- ---- the result at a slot

module _ (P Q : Parts) (i : ℕ) where
  pub added-low : (of : Addend) → value_of P i ≤ added_at of P Q i
  added-low Map = omega arith
  added-low (Number d) =
      elim (ℕ_discrete (value_of P i) 0) [
        | yes e ↦ omega arith
        | no ne ↦ rw (ne_eqb (value_of P i) 0 ne) (omega arith)
      ]

  pub added-high : (of : Addend) → added_at of P Q i ≤ value_of P i + addend_at of Q i
  added-high Map = omega arith
  added-high (Number d) =
      elim (ℕ_discrete (value_of P i) 0) [
        | yes e ↦ rw e (omega arith)
        | no ne ↦ rw (ne_eqb (value_of P i) 0 ne) (omega arith)
      ]

  pub added-sum : (of : Addend) → 1 ≤ added_at of P Q i → added_at of P Q i ≡ value_of P i + addend_at of Q i
  added-sum Map h = refl
  added-sum (Number d) h =
      elim (ℕ_discrete (value_of P i) 0) [
        | yes e ↦ absurd (omega (arith, rw e at h))
        | no ne ↦ rw (ne_eqb (value_of P i) 0 ne)
      ]

-- ---- the cursor

pub cursor_of-start : (of : Addend) (Q : Parts) → CursorOf of Q 0 0
cursor_of-start Map Q = cursor-start Q
cursor_of-start (Number d) Q = tt

pub cursor_of-to : (of : Addend) (Q : Parts) (t i s : ℕ) → CursorOf of Q t i → i ≤ s → s ≤ next_of of Q t
    → CursorOf of Q t s
cursor_of-to Map Q t i s c h₁ h₂ = cursor-to Q t i s c h₁ h₂
cursor_of-to (Number d) Q t i s c h₁ h₂ = tt

module _ {P Q : Parts} (p : SoundPair P Q) where
  pub cursor_of-gap : (of : Addend) (t i s : ℕ) → CursorOf of Q t i → i ≤ s
      → ((u : ℕ) → i ≤ u → u < s → added_at of P Q u < 255) → CursorOf of Q t s
  cursor_of-gap Map t i s c h none =
      cursor-gap Q p.second p.bytes-second t i s c h (λ u h₁ h₂. omega (arith, none u h₁ h₂))
  cursor_of-gap (Number d) t i s c h none = tt

  pub next_of-low : (of : Addend) (t i : ℕ) → CursorOf of Q t i → i ≤ P.n → i ≤ next_of of Q t
  next_of-low Map t i c inside =
      next_slot-low Q p.second p.bytes-second t i c (omega (arith, p.sizes))
  next_of-low (Number d) t i c inside = omega (arith, p.sizes)

  pub next_of-le : (of : Addend) (t : ℕ) → next_of of Q t ≤ P.n
  next_of-le Map t = omega (arith, next_slot-le Q p.second p.bytes-second t, p.sizes)
  next_of-le (Number d) t = omega (arith, p.sizes)

  pub addend-gap : (of : Addend) (t i u : ℕ) → Small of → CursorOf of Q t i → i ≤ u → u < next_of of Q t
      → addend_at of Q u < 2 ^ 31
  addend-gap Map t i u small c h₁ h₂ = omega (arith, gap-small Q p.second p.bytes-second t i u c h₁ h₂)
  addend-gap (Number d) t i u small c h₁ h₂ = small
