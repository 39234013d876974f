-- What a list of changes says of a place.
--   Tells cs kind place b new    cs has such a change where b is true, and the number after it is `new`
--   tells_none                   no change at all
--   tells-right, -left           of two lists, where the first or the second has no such change
--   tells-kind, tells_at         of changes of one kind, made of numbers with p: at another kind; at the place of one
--   tells-only, tells-other      of one change where a test fails: that change; any other kind
-- Axioms: none.
use mathlib.Core.Path.{◌≡◌, refl, sym, ap, subst, ◌∙◌}
use Prim.Native.Nat.{ℕ, zero, suc, ◌+◌, ◌≤◌, ◌<◌}
use native.Mathlib.Omega.{arith}
use native.Mathlib.Decide.{dec_le}
use mathlib.Core.Bool.{Bool, true, false, not, cond, ◌||◌}
use mathlib.Core.List.{List, [], ◌∷◌, ◌++◌, map}
use lib.Dec.{eqb}
use borrow.Author.Tests.{eq-eqb, ne_eqb}
use Rattle.pciv_bytes.specs.Ranges.{keep_if, positions}
use Rattle.pciv_format.proofs.PartsLaws.{and-false}
use Rattle.pciv_repair.specs.Repair.{Correction}
use Rattle.pciv_repair.specs.Applied.{is_line, has_line, new_in}

-- ---- tests

or_assoc : (a b c : Bool) → (a || b) || c ≡ a || (b || c)
or_assoc true b c = refl
or_assoc false b c = refl

or-none : (b : Bool) → b || false ≡ b
or-none true = refl
or-none false = refl

-- ---- what is told of a place

pub record Tells (cs : List Correction) (kind place : ℕ) (b : Bool) (new : ℕ) : Type 0 where
  pub has : has_line cs kind place ≡ b
  pub number : (old : ℕ) → new_in cs kind place old ≡ cond b new old

-- ---- one change

is_line-self : (c : Correction) (kind : ℕ) → c.kind ≡ kind → is_line c kind c.place ≡ true
is_line-self c kind e = rw (eq-eqb c.kind kind e, eq-eqb c.place c.place refl)

is_line-kind : (c : Correction) (kind place : ℕ) → (c.kind ≡ kind → ⊥) → is_line c kind place ≡ false
is_line-kind c kind place other = rw (ne_eqb c.kind kind other)

is_line-place : (c : Correction) (kind place : ℕ) → (c.place ≡ place → ⊥) → is_line c kind place ≡ false
is_line-place c kind place other = rw (ne_eqb c.place place other) (and-false (eqb c.kind kind))

-- ---- one change after another

module _ (kind place : ℕ) where
  pub tells_none : (new : ℕ) → Tells [] kind place false new
  unfolding has_line new_in
  tells_none new = record { has = refl; number = λ old. refl }

  tells-here : (c : Correction) (cs : List Correction) → is_line c kind place ≡ true
      → Tells (c ∷ cs) kind place true c.after
  unfolding has_line new_in
  tells-here c cs e = record { has = rw e; number = λ old. rw e }

  tells-skip : (c : Correction) (cs : List Correction) (b : Bool) (new : ℕ) → is_line c kind place ≡ false
      → Tells cs kind place b new → Tells (c ∷ cs) kind place b new
  unfolding has_line new_in
  tells-skip c cs b new e t = record { has = rw e t.has; number = λ old. rw e (t.number old) }

  -- ---- two lists

  has_line-append : (xs ys : List Correction)
      → has_line (xs ++ ys) kind place ≡ has_line xs kind place || has_line ys kind place
  unfolding has_line
  has_line-append [] ys = refl
  has_line-append (c ∷ xs) ys = rw (has_line-append xs ys) (sym (or_assoc (is_line c kind place) _ _))

  new_in-append : (xs ys : List Correction) (old : ℕ)
      → new_in (xs ++ ys) kind place old ≡ new_in xs kind place (new_in ys kind place old)
  unfolding new_in
  new_in-append [] ys old = refl
  new_in-append (c ∷ xs) ys old = ap (cond (is_line c kind place) c.after) (new_in-append xs ys old)

module _ {kind place : ℕ} {xs ys : List Correction} {b : Bool} {x y : ℕ} where
  pub tells-right : Tells xs kind place false x → Tells ys kind place b y → Tells (xs ++ ys) kind place b y
  tells-right t u =
      record {
        has = has_line-append kind place xs ys ∙ rw t.has u.has;
        number = λ old. new_in-append kind place xs ys old ∙ t.number (new_in ys kind place old) ∙ u.number old;
      }

  pub tells-left : Tells xs kind place b x → Tells ys kind place false y → Tells (xs ++ ys) kind place b x
  tells-left t u =
      record {
        has = has_line-append kind place xs ys ∙ rw (t.has, u.has) (or-none b);
        number =
            λ old.
            new_in-append kind place xs ys old
            ∙ t.number (new_in ys kind place old)
            ∙ ap (cond b x) (u.number old);
      }

-- ---- changes of one kind, made of numbers

module _ (line : ℕ → Correction) (kind : ℕ) (kind_is : (j : ℕ) → (line j).kind ≡ kind) where
  pub tells-kind : (kind' place new : ℕ) → (kind ≡ kind' → ⊥) → (js : List ℕ)
      → Tells (map line js) kind' place false new
  tells-kind kind' place new other [] = tells_none kind' place new
  tells-kind kind' place new other (j ∷ js) =
      tells-skip kind' place (line j) (map line js) false new
      (is_line-kind (line j) kind' place (λ q. other (sym (kind_is j) ∙ q))) (tells-kind kind' place new other js)

  module _ (rise : (j t : ℕ) → j < t → (line j).place < (line t).place) (p : ℕ → Bool) where
    -- number i, where it has p, in front of changes at other places
    in-front : (i : ℕ) (js : List ℕ) (place new : ℕ) (b test : Bool) → ((line i).place ≡ place → ⊥)
        → Tells (map line js) kind place b new → Tells (map line (keep_if test i js)) kind place b new
    in-front i js place new b true other t =
        tells-skip kind place (line i) (map line js) b new (is_line-place (line i) kind place other) t
    in-front i js place new b false other t = t

    -- none at the place of a smaller number
    tells-below : (c i t new : ℕ) → t < i → Tells (map line (positions p i c)) kind (line t).place false new
    unfolding positions
    tells-below zero i t new h = tells_none kind (line t).place new
    tells-below (suc c) i t new h =
        in-front i (positions p (suc i) c) (line t).place new false (p i) (λ q. omega (arith, rise t i h))
        (tells-below c (suc i) t new (omega arith))

    tells_first : (c i : ℕ) → Tells (map line (positions p i (suc c))) kind (line i).place (p i) (line i).after
    unfolding positions
    tells_first c i = go (p i)
      where
        go : (b : Bool) → Tells (map line (keep_if b i (positions p (suc i) c))) kind (line i).place b (line i).after
        go true =
            tells-here kind (line i).place (line i) (map line (positions p (suc i) c))
            (is_line-self (line i) kind (kind_is i))
        go false = tells-below c (suc i) i (line i).after (omega arith)

    -- at the place of number t
    pub tells_at : (c i t : ℕ) → i ≤ t → t < i + c
        → Tells (map line (positions p i c)) kind (line t).place (p t) (line t).after
    unfolding positions
    tells_at zero i t h₁ h₂ = absurd (omega arith)
    tells_at (suc c) i t h₁ h₂ =
        elim (dec_le t i) [
          | yes d ↦ (let e : i ≡ t = omega arith in
              subst (λ (s : ℕ). Tells (map line (positions p i (suc c))) kind (line s).place (p s) (line s).after) e
              (tells_first c i))
          | no d ↦ in-front i (positions p (suc i) c) (line t).place (line t).after (p t) (p i)
              (λ q. omega (arith, rise i t (omega arith)))
              (tells_at c (suc i) t (omega arith) (omega arith))
        ]

-- ---- one change, where a test fails

pub tells-only : (c : Correction) (kind place : ℕ) → c.kind ≡ kind → c.place ≡ place → (test : Bool)
    → Tells (cond test [] (c ∷ [])) kind place (not test) c.after
tells-only c kind place e e' true = tells_none kind place c.after
tells-only c kind place e e' false =
    tells-here kind place c []
    (subst (λ (x : ℕ). is_line c kind x ≡ true) e' (is_line-self c kind e))

pub tells-other : (c : Correction) (kind place new : ℕ) → (c.kind ≡ kind → ⊥) → (test : Bool)
    → Tells (cond test [] (c ∷ [])) kind place false new
tells-other c kind place new other true = tells_none kind place new
tells-other c kind place new other false =
    tells-skip kind place c [] false new (is_line-kind c kind place other) (tells_none kind place new)
