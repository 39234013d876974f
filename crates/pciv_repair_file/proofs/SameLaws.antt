-- The test that two lists of numbers are the same.
--   same_true, same_refl    from the test to the equation, and back
-- Axioms: none.
use mathlib.Core.Path.{◌≡◌, refl, sym, ap₂}
use Prim.Native.Nat.{ℕ}
use mathlib.Core.Bool.{Bool, true, false, ◌&&◌}
use mathlib.Core.List.{List, [], ◌∷◌}
use lib.Dec.{eqb}
use borrow.Author.Tests.{eq-eqb, eqb-true}
use Rattle.pciv_bytes.proofs.RangesLaws.{true-false}
use Rattle.pciv_repair_file.specs.Repaired.{same}

and-true : (a b : Bool) → a && b ≡ true → (a ≡ true) × (b ≡ true)
and-true true b e = (refl, e)
and-true false b e = absurd (true-false (sym e))

pub same_true : (xs ys : List ℕ) → same xs ys ≡ true → xs ≡ ys
unfolding same
same_true [] [] e = refl
same_true [] (y ∷ ys) e = absurd (true-false (sym e))
same_true (x ∷ xs) [] e = absurd (true-false (sym e))
same_true (x ∷ xs) (y ∷ ys) e =
    let q = and-true (eqb x y) (same xs ys) e in
    ap₂ (λ (z : ℕ) (zs : List ℕ). z ∷ zs) (eqb-true x y q.0) (same_true xs ys q.1)

same_self : (xs : List ℕ) → same xs xs ≡ true
unfolding same
same_self [] = refl
same_self (x ∷ xs) = rw (eq-eqb x x refl) (same_self xs)

pub same_refl : (xs ys : List ℕ) → xs ≡ ys → same xs ys ≡ true
same_refl xs ys e = rw (sym e) (same_self xs)
