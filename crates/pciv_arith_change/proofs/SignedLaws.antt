-- Laws of signed numbers. `mag z` is n both for n and for -(n + 1).
--   mag_sum, mag-sub     how large a sum and a difference are
--   sub-sub, sub-add     taking off more at once, and adding to what something is taken off
--   lowered-raised       255 more, and 255 less again
-- Axioms: none.
use mathlib.Core.Path.{◌≡◌, sym, ap, ◌∙◌}
use Prim.Native.Nat.{ℕ, zero, suc, ◌+◌, ◌-◌, ◌≤◌, ◌<◌}
use native.Mathlib.Omega.{arith}
use mathlib.Core.Bool.{Bool, true, false, cond}
use lib.IntN.{ℤ, pos, negsuc, neg_ℤ, ◌+ℤ◌, ◌-ℤ◌, +ℤ_assoc, +ℤ_comm, +ℤ-neg_ℤ_cancel, neg_ℤ-+ℤ}
use lib.Dec.{ltb}
use lib.Signed.{mag}

sub-mag : (b : Bool) (x y : ℕ) → mag (cond b (negsuc (y - suc x)) (pos (x - y))) ≤ x + y
sub-mag true x y = omega arith
sub-mag false x y = omega arith

pub mag_sum : (z w : ℤ) → mag (z +ℤ w) ≤ mag z + mag w + 1
mag_sum (pos x) (pos y) = omega arith
mag_sum (pos x) (negsuc y) = omega (arith, sub-mag (ltb x (suc y)) x (suc y))
mag_sum (negsuc x) (pos y) = omega (arith, sub-mag (ltb y (suc x)) y (suc x))
mag_sum (negsuc x) (negsuc y) = omega arith

mag-neg : (x : ℕ) → mag (neg_ℤ (pos x)) ≤ x
mag-neg zero = omega arith
mag-neg (suc x) = omega arith

pub mag-sub : (z : ℤ) (x : ℕ) → mag (z -ℤ pos x) ≤ mag z + x + 1
mag-sub z x = omega (arith, mag_sum z (neg_ℤ (pos x)), mag-neg x)

-- taking off more at once
pub sub-sub : (z : ℤ) (x y : ℕ) → (z -ℤ pos x) -ℤ pos y ≡ z -ℤ pos (x + y)
sub-sub z x y =
    +ℤ_assoc z (neg_ℤ (pos x)) (neg_ℤ (pos y)) ∙ ap (λ (w : ℤ). z +ℤ w) (sym (neg_ℤ-+ℤ (pos x) (pos y)))

-- adding to what something is taken off
pub sub-add : (x y : ℕ) (w : ℤ) → (pos x +ℤ w) +ℤ pos y ≡ pos (x + y) +ℤ w
sub-add x y w =
    +ℤ_assoc (pos x) w (pos y)
    ∙ ap (λ (u : ℤ). pos x +ℤ u) (+ℤ_comm w (pos y))
    ∙ sym (+ℤ_assoc (pos x) (pos y) w)

-- 255 more, and 255 less again
pub lowered-raised : (x y : ℕ) → x < 256 → pos (255 + y - x) -ℤ pos 255 ≡ pos y -ℤ pos x
lowered-raised x y h =
    let d : ℕ = 255 - x in
    let e : 255 + y - x ≡ y + d = omega arith in
    let g : 255 ≡ x + d = omega arith in
    ap (λ (t : ℕ). pos t -ℤ pos 255) e
    ∙ ap (λ (t : ℕ). pos (y + d) -ℤ pos t) g
    ∙ sym (sub-sub (pos (y + d)) x d)
    ∙ ap (λ (z : ℤ). z -ℤ pos d) (sym (sub-add y d (neg_ℤ (pos x))))
    ∙ +ℤ-neg_ℤ_cancel (pos y -ℤ pos x) (pos d)
