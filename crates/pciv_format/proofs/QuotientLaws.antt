-- Laws of `quotient`: whole numbers up to 2 ^ 53 are floats without loss, and their quotient is rounded once.
--   in-float                        such a number may be cast to a float
--   float_back                      made a float, it comes back as it was
--   quotient-zero, quotient-over    the two cases of a quotient
--   quotient-nearest                the quotient of two is the float that is nearest to their fraction
-- Axioms: none.
use mathlib.Core.Path.{◌≡◌, sym, ap, ◌∙◌}
use Prim.Native.Nat.{ℕ, ◌*◌, ◌^◌, ◌≤◌, ◌<◌}
use native.Mathlib.Nat.{mul-one, zero-mul, mul_assoc, mul_comm, mul-pos}
use native.Mathlib.Omega.{arith}
use mathlib.Core.Bool.{true, false, true≢false}
use borrow.Author.Tests.{eq-eqb, ne_eqb}
use lib.Dec.{T, le→leb}
use lib.IntN.{pos}
use lib.Ieee.{Float, nan, inf, fin, binary64, up, down, round, div, of_int, of_bits, to_unsigned, in_float}
use lib.Ieee.Fits.{down_pos}
use lib.Ieee.Exact.{HasValue}
use lib.Ieee.Back.{round_whole, unsigned_back}
use lib.Ieee.Scale.{round_same}
use Rattle.pciv_format.specs.Figures.{quotient}

pub in-float : (p : ℕ) → p ≤ 2 ^ 53 → T (in_float binary64 (pos p))
unfolding in_float
in-float p h = le→leb p (2 ^ 53) h

pub float_back : (p : ℕ) → p ≤ 2 ^ 53 → to_unsigned 64 (of_int binary64 (pos p)) ≡ p
float_back p h = (unsigned_back binary64 64 p (in-float p h) (omega arith)).1

-- ---- one division

pub quotient-zero : (p q : ℕ) → q ≡ 0 → quotient p q ≡ of_bits binary64 0
unfolding quotient
quotient-zero p q z = rw (eq-eqb q 0 z)

pub quotient-over : (p q : ℕ) → (q ≡ 0 → ⊥)
    → quotient p q ≡ div binary64 (of_int binary64 (pos p)) (of_int binary64 (pos q))
unfolding quotient
quotient-over p q some = rw (ne_eqb q 0 some)

float_value : (p : ℕ) → p ≤ 2 ^ 53 → HasValue (of_int binary64 (pos p)) false p 1
unfolding of_int
float_value p h = round_whole binary64 false p h

factors : (p q d e : ℕ) → p * e * d * q ≡ p * (q * d * e)
factors p q d e =
    ap (λ (z : ℕ). z * q) (mul_assoc p e d)
    ∙ mul_assoc p (e * d) q
    ∙ ap (λ (z : ℕ). p * z) (mul_comm (e * d) q ∙ ap (λ (z : ℕ). q * z) (mul_comm e d) ∙ sym (mul_assoc q d e))

not-zero : (n u x : ℕ) → n * u ≡ x → 0 < x → n ≡ 0 → ⊥
not-zero n u x e h z = let none : n * u ≡ 0 = ap (λ (y : ℕ). y * u) z ∙ zero-mul u in omega arith

div_value : (x y : Float) (p q : ℕ) → HasValue x false p 1 → HasValue y false q 1 → 0 < q
    → div binary64 x y ≡ round binary64 false p q
unfolding div
div_value nan y p q h k above = absurd h
div_value (inf s) y p q h k above = absurd h
div_value (fin s m e) nan p q h k above = absurd k
div_value (fin s m e) (inf t) p q h k above = absurd k
div_value (fin true m e) (fin t n d) p q h k above = absurd (true≢false h.0)
div_value (fin false m e) (fin true n d) p q h k above = absurd (true≢false k.0)
div_value (fin false m e) (fin false n d) p q h k above =
    let x : m * up e ≡ p * down e = sym (mul-one (m * up e)) ∙ h.1 in
    let y : n * up d ≡ q * down d = sym (mul-one (n * up d)) ∙ k.1 in
    let some : 0 < q * down d = mul-pos above (down_pos d) in
    let low : 0 < n * up d * down e = rw y (mul-pos some (down_pos e)) in
    let same : m * up e * down d * q ≡ p * (n * up d * down e) = rw (x, y) (factors p q (down d) (down e)) in
    rw (ne_eqb n 0 (not-zero n (up d) (q * down d) y some))
    (round_same binary64 false (m * up e * down d) (n * up d * down e) p q low above same)

pub quotient-nearest : (p q : ℕ) → p ≤ 2 ^ 53 → q ≤ 2 ^ 53 → 0 < q → quotient p q ≡ round binary64 false p q
quotient-nearest p q hp hq above =
    quotient-over p q (λ z. omega arith)
    ∙ div_value (of_int binary64 (pos p)) (of_int binary64 (pos q)) p q (float_value p hp) (float_value q hq) above
