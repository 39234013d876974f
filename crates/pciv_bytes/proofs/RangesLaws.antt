-- Laws of `flag`, `first_below` and `table`, and of the elements of a list.
--   true-false                no test is both
--   flag-le, -zero, -not      a flag is at most 1; where it is 0, the test fails; a test and its negation
--   bool_byte-flag             a test, cast to a number
--   get_or-inside               inside a list the default does not matter
--   get_or-map_inside                  an element of a list to which a function is applied
--   map-cong                  functions that agree on the elements of a list
--   part-cons                 a part of a list, and its first element by itself
--   first_from-position       the first element of a part that passes, by the library's search through the part
--   first_below-none, -at      its value, from what holds of each number
--   first_below-le, -clear, -has, -all, -lt    what holds of each number, from its value
--   first_below-more           below one number more
--   first_from-cong, first_below-cong    of tests that agree
--   length-table, get_or-table, table-cong      a table's length and elements; functions that agree
--   table-rest, table_done    what is left of a table at index i of n
--   table-shift, table-append    the same elements from another place on; a table in two parts
-- Axioms: none.
use mathlib.Core.Path.{◌≡◌, refl, sym, ap, ap₂, ◌∙◌}
use Prim.Native.Nat.{ℕ, zero, suc, ◌+◌, ◌-◌, ◌≤◌, ◌<◌}
use native.Mathlib.Nat.{zero-add, add-zero}
use native.Mathlib.Omega.{arith}
use native.Mathlib.Decide.{dec_le}
use native.Mathlib.Numerals.{add-one}
use mathlib.Core.Bool.{Bool, true, false, cond, not, ◌&&◌}
use mathlib.Core.List.{List, [], ◌∷◌, ◌++◌, map}
use lib.ListN
use lib.ListN.{length, get_or, take, drop, length-map, length-drop}
use lib.Seq.{drop-cons, length-take-le}
use lib.Dec.{eqb, ltb}
use borrow.Author.Tests.{eqb-true, eqb-false, ltb-false}
use mir.Val.{bool_byte}
use Rattle.std.proofs.Common.{Option, Some, None}
use Rattle.std.specs.Option.{unwrap_or}
use Rattle.std.specs.List.{position_or_len, position}
use Rattle.pciv_bytes.specs.Ranges.{flag, first_from, first_below, table}

pub true-false : true ≡ false → ⊥
true-false e = let z : ◌≡◌ {A = ℕ} 0 1 = cc in omega arith

-- ---- flag

pub flag-le : (b : Bool) → flag b ≤ 1
flag-le true = omega arith
flag-le false = omega arith

pub flag-zero : (b : Bool) → flag b ≡ 0 → b ≡ false
flag-zero true e = absurd (omega arith)
flag-zero false e = refl

pub flag-not : (b : Bool) → flag (not b) + flag b ≡ 1
flag-not true = refl
flag-not false = refl

-- a test, cast to a number
pub bool_byte-flag : (b : Bool) → bool_byte b ≡ flag b
bool_byte-flag true = refl
bool_byte-flag false = refl

-- ---- the elements of a list

pub get_or-inside : {A : Type 0} (xs : List A) (j : ℕ) (a b : A) → j < length xs → get_or xs j a ≡ get_or xs j b
get_or-inside [] j a b h = absurd (omega arith)
get_or-inside (x ∷ xs) zero a b h = refl
get_or-inside (x ∷ xs) (suc j) a b h = get_or-inside xs j a b (omega arith)

pub get_or-map_inside : {A B : Type 0} (f : A → B) (xs : List A) (i : ℕ) (e : A) (d : B) → i < length xs
    → get_or (map f xs) i d ≡ f (get_or xs i e)
get_or-map_inside f xs i e d h = get_or-inside (map f xs) i d (f e) (rw length-map h) ∙ ListN.get_or-map f xs i e

pub map-cong : (f g : ℕ → ℕ) (xs : List ℕ) → ((i : ℕ) → i < length xs → f (get_or xs i 0) ≡ g (get_or xs i 0))
    → map f xs ≡ map g xs
map-cong f g [] same = refl
map-cong f g (x ∷ xs) same =
    ap₂ (λ (y : ℕ) (l : List ℕ). y ∷ l) (same 0 (omega arith)) (map-cong f g xs (λ i h. same (suc i) (omega arith)))

-- a part of a list, and its first element by itself
part-cons : (l : List ℕ) (at c : ℕ) → at < length l → take (suc c) (drop at l) ≡ get_or l at 0 ∷ take c (drop (suc at) l)
part-cons l at c h = rw (drop-cons l at 0 h)

-- ---- first_from and first_below

module _ (p : ℕ → Bool) where
  -- where none of the c numbers from i on has p
  pub first_from-none : (c i : ℕ) → ((j : ℕ) → i ≤ j → j < i + c → p j ≡ false) → first_from p i c ≡ i + c
  unfolding first_from
  first_from-none zero i none = omega arith
  first_from-none (suc c) i none =
      rw (none i (omega arith) (omega arith))
      (first_from-none c (suc i) (λ j h l. none j (omega arith) (omega arith)) ∙ omega arith)

  -- the least of them with p
  pub first_from-at : (c i a : ℕ) → i ≤ a → a < i + c → ((j : ℕ) → i ≤ j → j < a → p j ≡ false) → p a ≡ true
      → first_from p i c ≡ a
  unfolding first_from
  first_from-at zero i a low high none has = absurd (omega arith)
  first_from-at (suc c) i a low high none has =
      elim (dec_le a i) [
        | yes d ↦ (let q : i ≡ a = omega arith in rw (q, has))
        | no d ↦ rw (none i (omega arith) (omega arith))
            (first_from-at c (suc i) a (omega arith) (omega arith) (λ j h. none j (omega arith)) has)
      ]

  -- what is known of first_from: it is from i up to i + c, nothing before it has p, and below i + c it has p
  record First (i c r : ℕ) : Type 0 where
    low : i ≤ r
    high : r ≤ i + c
    clear : (j : ℕ) → i ≤ j → j < r → p j ≡ false
    has : r < i + c → p r ≡ true

  from_is : (c i : ℕ) → First i c (first_from p i c)
  unfolding first_from
  from_is zero i =
      record {
        low = omega arith;
        high = omega arith;
        clear = λ j h₁ h₂. absurd (omega arith);
        has = λ h. absurd (omega arith);
      }
  from_is (suc c) i = go (p i) refl (from_is c (suc i))
    where
      go : (b : Bool) → p i ≡ b → First (suc i) c (first_from p (suc i) c)
          → First i (suc c) (cond b i (first_from p (suc i) c))
      go true e ih =
          record { low = omega arith; high = omega arith; clear = λ j h₁ h₂. absurd (omega arith); has = λ h. e }
      go false e ih =
          record {
            low = omega (arith, ih.low);
            high = omega (arith, ih.high);
            clear = λ j h₁ h₂.
                elim (dec_le j i)
                [ yes d ↦ (let q : j ≡ i = omega arith in rw (q, e)) | no d ↦ ih.clear j (omega arith) h₂ ];
            has = λ h. ih.has (omega arith);
          }

  module _ (c i : ℕ) where
    pub first_from-low : i ≤ first_from p i c
    first_from-low = (from_is c i).low

    pub first_from-le : first_from p i c ≤ i + c
    first_from-le = (from_is c i).high

    -- nothing before it has p
    pub first_from-clear : (j : ℕ) → i ≤ j → j < first_from p i c → p j ≡ false
    first_from-clear = (from_is c i).clear

    -- below i + c it has p
    pub first_from-has : first_from p i c < i + c → p (first_from p i c) ≡ true
    first_from-has = (from_is c i).has

  below-is : (k : ℕ) → First 0 k (first_below p k)
  unfolding first_below
  below-is k = from_is k 0

  -- where no number below k has p
  pub first_below-none : (k : ℕ) → ((j : ℕ) → j < k → p j ≡ false) → first_below p k ≡ k
  unfolding first_below
  first_below-none k none = first_from-none k 0 (λ j h l. none j (omega arith)) ∙ omega arith

  -- the least number with p
  pub first_below-at : (k a : ℕ) → a < k → ((j : ℕ) → j < a → p j ≡ false) → p a ≡ true → first_below p k ≡ a
  unfolding first_below
  first_below-at k a inside none has = first_from-at k 0 a (omega arith) (omega arith) (λ j h. none j) has

  pub first_below-le : (k : ℕ) → first_below p k ≤ k
  first_below-le k = omega (arith, (below-is k).high)

  -- nothing below it has p
  pub first_below-clear : (k j : ℕ) → j < first_below p k → p j ≡ false
  first_below-clear k j h = (below-is k).clear j (omega arith) h

  -- below k it has p
  pub first_below-has : (k : ℕ) → first_below p k < k → p (first_below p k) ≡ true
  first_below-has k h = (below-is k).has (omega arith)

  -- where it is k, no number below k has p
  pub first_below-all : (k j : ℕ) → k ≤ first_below p k → j < k → p j ≡ false
  first_below-all k j none h = first_below-clear k j (omega arith)

  -- where some number below k has p
  pub first_below-lt : (k j : ℕ) → j < k → p j ≡ true → first_below p k < k
  first_below-lt k j h has =
      elim (dec_le k (first_below p k))
      [ yes d ↦ absurd (true-false (sym has ∙ first_below-all k j d h)) | no d ↦ omega arith ]

-- the first element of a part that passes, by the library's search through the part
first_from-position_or_len : (p : ℕ → Bool) (l : List ℕ) (c i : ℕ) → i + c ≤ length l
    → first_from (λ (j : ℕ). p (get_or l j 0)) i c ≡ i + position_or_len p (take c (drop i l))
unfolding first_from
first_from-position_or_len p l zero i inside = omega arith
first_from-position_or_len p l (suc c) i inside =
    rw (part-cons l i c (omega arith)) (go (p (get_or l i 0)) (first_from-position_or_len p l c (suc i) (omega arith)))
  where
    go : (b : Bool) → first_from (λ (j : ℕ). p (get_or l j 0)) (suc i) c ≡ suc i + position_or_len p (take c (drop (suc i) l))
        → cond b i (first_from (λ (j : ℕ). p (get_or l j 0)) (suc i) c)
        ≡ i + cond (not b) (1 + position_or_len p (take c (drop (suc i) l))) 0
    go true ih = omega arith
    go false ih = omega arith

pub first_from-position : (p : ℕ → Bool) (l : List ℕ) (from to : ℕ) (r : Option ℕ) → from ≤ to → to ≤ length l
    → r ≡ position p (take (to - from) (drop from l))
    → from + unwrap_or r (to - from) ≡ first_from (λ (j : ℕ). p (get_or l j 0)) from (to - from)
first_from-position p l from to r order inside is =
    let part : List ℕ = take (to - from) (drop from l) in
    let size : length part ≡ to - from = length-take-le (to - from) (drop from l) (simp length-drop (omega arith)) in
    let found = first_from-position_or_len p l (to - from) from (omega arith) in
    let high = first_from-le (λ (j : ℕ). p (get_or l j 0)) (to - from) from in
    let pick : unwrap_or (position p part) (to - from) ≡ position_or_len p part =
    go (position_or_len p part) (length part) (to - from) size (omega (arith, found, high))
    (ltb (position_or_len p part) (length part)) refl in
    rw is (ap (λ (k : ℕ). from + k) pick ∙ sym found)
  where
    go : (k n d : ℕ) → n ≡ d → k ≤ d → (b : Bool) → ltb k n ≡ b → unwrap_or (cond b (Some k) None) d ≡ k
    go k n d e h true t = refl
    go k n d e h false t = omega (arith, ltb-false k n t)

pub first_from-cong : (p q : ℕ → Bool) (c i : ℕ) → ((j : ℕ) → j < i + c → p j ≡ q j) → first_from p i c ≡ first_from q i c
unfolding first_from
first_from-cong p q zero i same = refl
first_from-cong p q (suc c) i same =
    ap₂ (λ (b : Bool) (r : ℕ). cond b i r) (same i (omega arith))
    (first_from-cong p q c (suc i) (λ j h. same j (omega arith)))

-- the least number below f + 1 with p, from that below f
pub first_below-more : (p : ℕ → Bool) (f : ℕ) (t : Bool) → p f ≡ not t
    → cond (eqb (first_below p f) f && t) (f + 1) (first_below p f) ≡ first_below p (f + 1)
first_below-more p f t e = go (eqb (first_below p f) f) t refl e
  where
    go : (b t : Bool) → eqb (first_below p f) f ≡ b → p f ≡ not t
        → cond (b && t) (f + 1) (first_below p f) ≡ first_below p (f + 1)
    go true true all e =
        let z : first_below p f ≡ f = eqb-true (first_below p f) f all in
        sym (first_below-none p (f + 1) (λ j h.
        elim (dec_le f j) [
          | yes d ↦ (let q : j ≡ f = omega arith in rw (q, e))
          | no d ↦ first_below-all p f j (omega arith) (omega arith)
        ]))
    go true false all e =
        let z : first_below p f ≡ f = eqb-true (first_below p f) f all in
        z ∙ sym (first_below-at p (f + 1) f (omega arith) (λ j h. first_below-all p f j (omega arith) h) e)
    go false t some e =
        let below : first_below p f < f =
        elim (dec_le f (first_below p f)) [
          | yes d ↦ absurd (eqb-false (first_below p f) f some (omega (arith, first_below-le p f)))
          | no d ↦ omega arith
        ] in
        sym (first_below-at p (f + 1) (first_below p f) (omega arith) (first_below-clear p f) (first_below-has p f below))

pub first_below-cong : (p q : ℕ → Bool) (k : ℕ) → ((j : ℕ) → j < k → p j ≡ q j) → first_below p k ≡ first_below q k
unfolding first_below
first_below-cong p q k same = first_from-cong p q k 0 (λ j h. same j (omega arith))

-- ---- table

module _ {A : Type 0} where
  pub length-table : (f : ℕ → A) (i c : ℕ) → length (table f i c) ≡ c
  unfolding table
  length-table f i zero = refl
  length-table f i (suc c) = ap suc (length-table f (suc i) c)

  pub get_or-table : (f : ℕ → A) (d : A) (i c j : ℕ) → j < c → get_or (table f i c) j d ≡ f (i + j)
  unfolding table
  get_or-table f d i zero j h = absurd (omega arith)
  get_or-table f d i (suc c) zero h = ap f (sym (add-zero i))
  get_or-table f d i (suc c) (suc j) h = get_or-table f d (suc i) c j (omega arith) ∙ ap f (omega arith)

  pub table-cong : (f g : ℕ → A) (i c : ℕ) → ((j : ℕ) → j < i + c → f j ≡ g j) → table f i c ≡ table g i c
  unfolding table
  table-cong f g i zero same = refl
  table-cong f g i (suc c) same =
      ap₂ (λ (x : A) (l : List A). x ∷ l) (same i (omega arith))
      (table-cong f g (suc i) c (λ j h. same j (omega arith)))

  pub table-rest : (f : ℕ → A) (n i : ℕ) → i < n → table f i (n - i) ≡ f i ∷ table f (i + 1) (n - (i + 1))
  unfolding table
  table-rest f n i h = let e : n - i ≡ suc (n - (i + 1)) = omega arith in rw (e, add-one i)

  pub table_done : (f : ℕ → A) (n i : ℕ) → n ≤ i → table f i (n - i) ≡ []
  unfolding table
  table_done f n i h = let e : n - i ≡ 0 = omega arith in rw e

  -- the same elements, from another place on
  pub table-shift : (f g : ℕ → A) (i t c : ℕ) → ((j : ℕ) → j < c → f (i + j) ≡ g (t + j)) → table f i c ≡ table g t c
  unfolding table
  table-shift f g i t zero same = refl
  table-shift f g i t (suc c) same =
      ap₂ (λ (x : A) (l : List A). x ∷ l) (rw (add-zero i, add-zero t) at (same 0 (omega arith)))
      (table-shift f g (suc i) (suc t) c (λ j h. ap f (omega arith) ∙ same (suc j) (omega arith) ∙ ap g (omega arith)))

  pub table-append : (f : ℕ → A) (c i m : ℕ) → table f i (c + m) ≡ table f i c ++ table f (i + c) m
  unfolding table
  table-append f zero i m = rw (zero-add m, add-zero i)
  table-append f (suc c) i m =
      let e : suc c + m ≡ suc (c + m) = omega arith in
      let g : i + suc c ≡ suc i + c = omega arith in
      rw (e, g) (ap (λ (l : List A). f i ∷ l) (table-append f c (suc i) m))
