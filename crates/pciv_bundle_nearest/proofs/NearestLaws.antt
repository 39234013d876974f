-- Laws of the nearest of several distances.
--   nearer-left, -right    of two distances: the first is 0, the second is
--   nearer-assoc     of three distances
--   nearest-hole     it is 0 exactly where all of them are 0
--   nearest-least    else it is one of them, and none of them is smaller but 0
--   hole-case, least-case    both at small lists, computed
--   length-nearest_list    that of every slot, as a list
-- Axioms: none.
use Rattle.std.proofs.Common.{◌≡◌, ℕ, zero, suc, ◌<◌, ◌≤◌, min, List, [], ◌∷◌, length, sym, refl, ◌∙◌, arith}
use native.Mathlib.Decide.{dec_le}
use Rattle.std.proofs.lemmas.Bool.Decides.{nat_tests}
use Rattle.pciv_bytes.proofs.RangesLaws.{length-table}
use Rattle.pciv_format.specs.Layout.{at}
use Rattle.pciv_bundle_nearest.specs.Nearest.{nearer, nearest_of, nearest_at, nearest_list}

-- ---- of two, and of three

pub nearer-left : (x y : ℕ) → x ≡ 0 → nearer x y ≡ y
nearer-left x y e = grind (arith, nat_tests)

pub nearer-right : (x : ℕ) → nearer x 0 ≡ x
nearer-right x = grind (arith, nat_tests)

-- what is known of the nearer: by which of the two are 0
nearer-cases : {B : Type 0} (x y : ℕ) → (x ≡ 0 → nearer x y ≡ y → B) → (y ≡ 0 → nearer x y ≡ x → B)
    → (0 < x → 0 < y → nearer x y ≡ min x y → B) → B
nearer-cases x y first second both =
    elim (dec_le x 0) [
      | yes d ↦ first (omega arith) (grind (arith, nat_tests))
      | no d ↦ elim (dec_le y 0) [
        | yes e ↦ second (omega arith) (grind (arith, nat_tests))
        | no e ↦ both (omega arith) (omega arith) (grind (arith, nat_tests))
      ]
    ]

pub nearer-assoc : (x y z : ℕ) → nearer (nearer x y) z ≡ nearer x (nearer y z)
nearer-assoc x y z = grind (arith, nat_tests)

-- ---- of a list

not-zero : (x : ℕ) → (x ≡ 0 → ⊥) → 0 < x
not-zero x some = omega arith

nearer-zero : (x y : ℕ) → nearer x y ≡ 0 → (x ≡ 0) × (y ≡ 0)
nearer-zero x y z = (grind (arith, nat_tests), grind (arith, nat_tests))

hole-all : (xs : List ℕ) → nearest_of xs ≡ 0 → (f : ℕ) → at xs f ≡ 0
unfolding nearest_of
hole-all [] e f = refl
hole-all (x ∷ xs) e zero = (nearer-zero x (nearest_of xs) e).0
hole-all (x ∷ xs) e (suc f) = hole-all xs (nearer-zero x (nearest_of xs) e).1 f

all-hole : (xs : List ℕ) → ((f : ℕ) → f < length xs → at xs f ≡ 0) → nearest_of xs ≡ 0
unfolding nearest_of
all-hole [] all = refl
all-hole (x ∷ xs) all =
    nearer-left x (nearest_of xs) (all 0 (omega arith)) ∙ all-hole xs (λ f h. all (suc f) (omega arith))

-- 0 exactly where every frame has 0
pub nearest-hole : (xs : List ℕ)
    → (nearest_of xs ≡ 0 → (f : ℕ) → f < length xs → at xs f ≡ 0)
    × (((f : ℕ) → f < length xs → at xs f ≡ 0) → nearest_of xs ≡ 0)
nearest-hole xs = (λ e f h. hole-all xs e f, all-hole xs)

one_of : (xs : List ℕ) → 0 < nearest_of xs → (f : ℕ) × (f < length xs) × (at xs f ≡ nearest_of xs)
unfolding nearest_of
one_of [] h = absurd (omega arith)
one_of (x ∷ xs) h =
    nearer-cases x (nearest_of xs)
    (λ z e. (let r = one_of xs (omega arith) in (suc r.0, omega (arith, r.1), r.2 ∙ sym e)))
    (λ z e. (0, omega arith, sym e))
    (λ h₁ h₂ e.
    elim (dec_le x (nearest_of xs)) [
      | yes d ↦ (0, omega arith, omega arith)
      | no d ↦ (let r = one_of xs h₂ in (suc r.0, omega (arith, r.1), r.2 ∙ omega arith))
    ])

none-nearer : (xs : List ℕ) (f : ℕ) → 0 < at xs f → nearest_of xs ≤ at xs f
unfolding nearest_of
none-nearer [] f h = omega arith
none-nearer (x ∷ xs) zero h = grind (arith, nat_tests)
none-nearer (x ∷ xs) (suc f) h =
    let low = none-nearer xs f h in let hole : nearest_of xs ≡ 0 → at xs f ≡ 0 = (λ z. hole-all xs z f) in grind (arith, nat_tests)

-- else the distance of one frame, and no frame has a smaller one but 0
pub nearest-least : (xs : List ℕ) → (nearest_of xs ≡ 0 → ⊥)
    → ((f : ℕ) × (f < length xs) × (at xs f ≡ nearest_of xs))
    × ((f : ℕ) → f < length xs → (at xs f ≡ 0 → ⊥) → nearest_of xs ≤ at xs f)
nearest-least xs some = (
  one_of xs (not-zero (nearest_of xs) some),
  λ f h other. none-nearer xs f (not-zero (at xs f) other),
)

-- ---- computed

pub hole-case : (nearest_of [] ≡ 0) × (nearest_of (0 ∷ 0 ∷ 0 ∷ []) ≡ 0) × (nearest_of (0 ∷ 7 ∷ 0 ∷ []) ≡ 7)
unfolding nearest_of
hole-case = (refl, refl, refl)

pub least-case : (nearest_of (300 ∷ 0 ∷ 254 ∷ 255 ∷ []) ≡ 254) × (nearest_of (0 ∷ 4294967295 ∷ 300 ∷ []) ≡ 300)
unfolding nearest_of
least-case = (refl, refl)

-- ---- of every slot

pub length-nearest_list : (fs : List (List ℕ)) (n : ℕ) → length (nearest_list fs n) ≡ n
unfolding nearest_list
length-nearest_list fs n = length-table (nearest_at fs) 0 n
