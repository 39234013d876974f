-- Laws of `sets`, which writes a list over another from a place on, and of lists written one element a turn.
-- A loop's invariant is the work that remains: writing all from the start equals writing the rest from here.
--   sets-append, sets-cons         a list in two parts; the first element and the rest
--   take-sets, sets-front          what stands before; a list at the front
--   sets-whole                     a list that is written over as a whole
--   put_mid-sets, -same            a list whose part holds another one now, or the same element everywhere
--   copy_within-sets               a list whose part holds a copy of another part now
--   set-behind, sets_behind, sets_first    written behind a list, or over its front
--   get_or-sets, sets-at             what is read where a list was written
--   get_or-sets-below, -above        what is read beside it
--   set-sets, set-before-sets      an element set where a list was written, or before it
--   sets-swap                      two lists written to disjoint places, in either order
--   sets-set-inside, sets_over, sets-again    what was written before under a list does not count
--   sets_same                      a list that stands there already
--   sets-table-start, -more, -end, -part    a table, an element or c of them a turn
--   sets-table-at, -above          what is read of a table at the front, and behind it
--   Left f n out₀ out i            the invariant of a loop that writes a table to the front of a list
--   left-start, left-more, left-part, left_end    no element, one more, several at once, and all
--   left-whole                     all, where the list has no others
--   sets-copy-more, -end           a copy of a list
--   sets-same-end                  the same element, over and over
--   sets-le-start, -more, -end     a number, a byte a turn
-- Axioms: none.
use mathlib.Core.Path.{◌≡◌, refl, sym, ap, ap₂, ◌∙◌}
use Prim.Native.Nat.{ℕ, suc, ◌+◌, ◌-◌, ◌/◌, ◌%◌, ◌≤◌, ◌<◌}
use native.Mathlib.Nat.{add-zero, zero-add, sub-zero}
use native.Mathlib.Numerals.{add-one}
use native.Mathlib.Omega.{arith}
use native.Mathlib.Decide.{dec_le}
use mathlib.Core.List.{List, [], ◌∷◌, ◌++◌, append_assoc, append-nil}
use lib.ListN.{length, length-append, get_or, take, drop, set, replicate, length-replicate, drop_of_length-le, length-set, length-drop, get_or-append}
use lib.Seq.{sets, sets-eq, length-sets, length-take-le, take-set-le, drop-cons, drop_at, get_or-append-add, set-get_or}
use lib.Seq.{set-set, set_comm, set-append_left, get_or-set_other, drop-drop}
use borrow.Rule.Slice.PartMut.{put_mid}
use Rattle.std.specs.List.{copy_within}
use Rattle.pciv_bytes.specs.LittleEndian.{le}
use Rattle.pciv_bytes.specs.Ranges.{table}
use Rattle.pciv_bytes.proofs.RangesLaws.{length-table, get_or-table, table-rest, table_done, table-append}

module _ {A : Type 0} where
  pub sets-append : (a b d : List A) (i : ℕ) → sets d i (a ++ b) ≡ sets (sets d i a) (i + length a) b
  sets-append [] b d i = rw add-zero
  sets-append (x ∷ a) b d i =
      let e : suc i + length a ≡ i + suc (length a) = omega arith in
      sets-append a b (set d i x) (suc i) ∙ ap (λ (j : ℕ). sets (sets (set d i x) (suc i) a) j b) e

  pub take-sets : (n : ℕ) (vs d : List A) (i : ℕ) → n ≤ i → take n (sets d i vs) ≡ take n d
  take-sets n [] d i h = refl
  take-sets n (v ∷ vs) d i h = take-sets n vs (set d i v) (suc i) (omega arith) ∙ take-set-le n d i v h

  -- a list written at the front
  pub sets-front : (f d : List A) → length f ≤ length d → sets d 0 f ≡ f ++ drop (length f) d
  sets-front f d h = sets-eq f d 0 (omega arith) ∙ ap (λ (k : ℕ). f ++ drop k d) (zero-add (length f))

  -- a list that is written over as a whole
  pub sets-whole : (d l : List A) → length l ≡ length d → sets d 0 l ≡ l
  sets-whole d l same =
      sets-front l d (omega arith)
      ∙ ap (λ (rest : List A). l ++ rest) (drop_of_length-le d {i = length l} (omega arith))
      ∙ append-nil l

  -- what stands before, in, and behind the place where a list was written
  sets-split : (d l : List A) (p : ℕ) → p + length l ≤ length d → sets d p l ≡ take p d ++ (l ++ drop (p + length l) d)
  sets-split d l p space = sets-eq l d p space ∙ append_assoc (take p d) l (drop (p + length l) d)

  -- a part that holds vs now
  pub put_mid-sets : (a k : ℕ) (d vs : List A) → length vs ≡ k → a + k ≤ length d → put_mid a k d vs ≡ sets d a vs
  put_mid-sets a k d vs same space =
      sym (sets-split d vs a (omega arith) ∙ rw (drop-drop k a d, same))

  -- a part that holds x everywhere now
  pub put_mid-same : (a k : ℕ) (d : List A) (x : A) (vs : List A) → vs ≡ replicate (length (take k (drop a d))) x
      → a + k ≤ length d → put_mid a k d vs ≡ sets d a (replicate k x)
  put_mid-same a k d x vs is space =
      let e : length (take k (drop a d)) ≡ k = length-take-le k (drop a d) (simp length-drop (omega arith)) in
      rw (is, e) (put_mid-sets a k d (replicate k x) (length-replicate k x) space)

  -- a part copied to another place
  pub copy_within-sets : (d : List A) (i j at k : ℕ) → j - i ≡ k → i ≤ j → j ≤ length d → at + k ≤ length d
      → copy_within d i j at ≡ sets d at (take k (drop i d))
  copy_within-sets d i j at k size order inside space =
      let e : length (take k (drop i d)) ≡ k = length-take-le k (drop i d) (simp length-drop (omega arith)) in
      rw size (sym (sets-eq (take k (drop i d)) d at (rw e space) ∙ rw e))

  -- what is read where a list was written
  pub get_or-sets : (vs d : List A) (z : A) (i j : ℕ) → j < length vs → i + length vs ≤ length d
      → get_or (sets d i vs) (i + j) z ≡ get_or vs j z
  get_or-sets vs d z i j h space =
      let rest : List A = drop (i + length vs) d in
      let front : length (take i d) ≡ i = length-take-le i d (omega arith) in
      ap (λ (m : List A). get_or m (i + j) z) (sets-split d vs i space)
      ∙ ap (λ (m : ℕ). get_or (take i d ++ (vs ++ rest)) (m + j) z) (sym front)
      ∙ get_or-append-add (take i d) (vs ++ rest) j z
      ∙ get_or-append vs rest z j h

  pub sets-at : (d l : List A) (p i : ℕ) (z : A) → p + length l ≤ length d → i < length l
      → get_or (sets d p l) (p + i) z ≡ get_or l i z
  sets-at d l p i z space h = get_or-sets l d z p i h space

  -- one of two joined lists written to
  pub set-behind : (xs ys : List A) (i : ℕ) (x : A) → set (xs ++ ys) (length xs + i) x ≡ xs ++ set ys i x
  set-behind [] ys i x = rw zero-add
  set-behind (y ∷ xs) ys i x =
      let e : suc (length xs) + i ≡ suc (length xs + i) = omega arith in
      rw e (ap (λ (l : List A). y ∷ l) (set-behind xs ys i x))

  pub sets_behind : (xs ys : List A) (i : ℕ) (vs : List A) → sets (xs ++ ys) (length xs + i) vs ≡ xs ++ sets ys i vs
  sets_behind xs ys i [] = refl
  sets_behind xs ys i (v ∷ vs) =
      let e : suc (length xs + i) ≡ length xs + suc i = omega arith in
      ap₂ (λ (l : List A) (j : ℕ). sets l j vs) (set-behind xs ys i v) e ∙ sets_behind xs (set ys i v) (suc i) vs

  pub sets-append-left : (xs ys : List A) (i : ℕ) (vs : List A) → i + length vs ≤ length xs
      → sets (xs ++ ys) i vs ≡ sets xs i vs ++ ys
  sets-append-left xs ys i [] h = refl
  sets-append-left xs ys i (v ∷ vs) h =
      ap (λ (l : List A). sets l (suc i) vs) (set-append_left xs ys i v (omega arith))
      ∙ sets-append-left (set xs i v) ys (suc i) vs (rw length-set (omega arith))

  -- the first of them replaced
  pub sets_first : (xs ys vs : List A) → length vs ≡ length xs → sets (xs ++ ys) 0 vs ≡ vs ++ ys
  sets_first xs ys vs same =
      sets-front vs (xs ++ ys) (simp length-append (omega arith))
      ∙ ap (λ (l : List A). vs ++ l) (drop_at xs ys (length vs) (sym same))

  -- an element written where a list was written
  pub set-sets : (d l : List A) (p i : ℕ) (x : A) → p + length l ≤ length d → i < length l
      → set (sets d p l) (p + i) x ≡ sets d p (set l i x)
  set-sets d l p i x space h =
      let rest : List A = drop (p + length l) d in
      let front : length (take p d) ≡ p = length-take-le p d (omega arith) in
      let same : length (set l i x) ≡ length l = length-set l i x in
      ap (λ (m : List A). set m (p + i) x) (sets-split d l p space)
      ∙ ap (λ (m : ℕ). set (take p d ++ (l ++ rest)) (m + i) x) (sym front)
      ∙ set-behind (take p d) (l ++ rest) i x
      ∙ ap (λ (m : List A). take p d ++ m) (set-append_left l rest i x h)
      ∙ sym (sets-split d (set l i x) p (rw same space) ∙ rw same)

  -- the first element of what is left to write
  pub sets-cons : (d l : List A) (x : A) (rest : List A) (i next : ℕ) → l ≡ x ∷ rest → next ≡ i + 1
      → sets d i l ≡ sets (set d i x) next rest
  sets-cons d l x rest i next e n = rw (e, n, add-one i)

  -- ---- what is written over

  -- an element within a part that is written afterwards
  pub sets-set-inside : (vs d : List A) (i s : ℕ) (x : A) → i ≤ s → s < i + length vs
      → sets (set d s x) i vs ≡ sets d i vs
  sets-set-inside [] d i s x low high = absurd (omega arith)
  sets-set-inside (v ∷ vs) d i s x low high =
      elim (dec_le s i) [
        | yes h ↦ (let e : s ≡ i = omega arith in rw e (ap (λ (l : List A). sets l (suc i) vs) (set-set d i x v)))
        | no h ↦ ap (λ (l : List A). sets l (suc i) vs) (set_comm d s i x v (λ q. omega arith))
            ∙ sets-set-inside vs (set d i v) (suc i) s x (omega arith) (omega arith)
      ]

  pub set-before-sets : (g d : List A) (i j : ℕ) (x : A) → i < j → set (sets d j g) i x ≡ sets (set d i x) j g
  set-before-sets [] d i j x h = refl
  set-before-sets (a ∷ g) d i j x h =
      set-before-sets g (set d j a) i (suc j) x (omega arith)
      ∙ ap (λ (l : List A). sets l (suc j) g) (set_comm d j i a x (λ e. omega arith))

  -- writes to disjoint places, in either order
  pub sets-swap : (e x d : List A) (i j : ℕ) → i + length e ≤ j → sets (sets d j x) i e ≡ sets (sets d i e) j x
  sets-swap [] x d i j h = refl
  sets-swap (a ∷ e) x d i j h =
      ap (λ (l : List A). sets l (suc i) e) (set-before-sets x d i j a (omega arith))
      ∙ sets-swap e x (set d i a) (suc i) j (omega arith)

  -- a list under one that is as long or longer
  pub sets_over : (g f d : List A) (i : ℕ) → length g ≤ length f → sets (sets d i g) i f ≡ sets d i f
  sets_over [] f d i h = refl
  sets_over (a ∷ g) [] d i h = absurd (omega arith)
  sets_over (a ∷ g) (x ∷ f) d i h =
      ap (λ (l : List A). sets l (suc i) f) (set-before-sets g (set d i a) i (suc i) x (omega arith))
      ∙ ap (λ (l : List A). sets (sets l (suc i) g) (suc i) f) (set-set d i a x)
      ∙ sets_over g f (set d i x) (suc i) (omega arith)

  pub sets-again : (d l l' : List A) (p : ℕ) → length l ≡ length l' → p + length l ≤ length d
      → sets (sets d p l) p l' ≡ sets d p l'
  sets-again d l l' p same space = sets_over l l' d p (omega arith)

  -- a list that stands there already
  pub sets_same : (vs d : List A) (z : A) (i : ℕ)
      → ((j : ℕ) → j < length vs → get_or d (i + j) z ≡ get_or vs j z) → sets d i vs ≡ d
  sets_same [] d z i same = refl
  sets_same (v ∷ vs) d z i same =
      let here : get_or d i z ≡ v = rw add-zero at (same 0 (omega arith)) in
      let kept : set d i v ≡ d = ap (set d i) (sym here) ∙ set-get_or d i z in
      ap (λ (l : List A). sets l (suc i) vs) kept
      ∙ sets_same vs d z (suc i) (λ j h. ap (λ (k : ℕ). get_or d k z) (omega arith) ∙ same (suc j) (omega arith))

  -- ---- a table

  pub sets-table-start : (f : ℕ → A) (at n : ℕ) (d : List A)
      → sets d at (table f 0 n) ≡ sets d (at + 0) (table f 0 (n - 0))
  sets-table-start f at n d = rw (add-zero, sub-zero)

  pub sets-table-more : (f : ℕ → A) (at n i : ℕ) (d : List A) → i < n
      → sets d (at + i) (table f i (n - i)) ≡ sets (set d (at + i) (f i)) (at + (i + 1)) (table f (i + 1) (n - (i + 1)))
  sets-table-more f at n i d h = sets-cons d _ (f i) _ (at + i) (at + (i + 1)) (table-rest f n i h) (omega arith)

  pub sets-table-end : (f : ℕ → A) (at n i : ℕ) (d : List A) → n ≤ i → sets d (at + i) (table f i (n - i)) ≡ d
  sets-table-end f at n i d h = ap (sets d (at + i)) (table_done f n i h)

  -- c elements of what is left of a table
  pub sets-table-part : (f : ℕ → A) (at n i c : ℕ) (d : List A) → i + c ≤ n
      → sets d (at + i) (table f i (n - i))
      ≡ sets (sets d (at + i) (table f i c)) (at + (i + c)) (table f (i + c) (n - (i + c)))
  sets-table-part f at n i c d h =
      let e : n - i ≡ c + (n - (i + c)) = omega arith in
      let g : at + i + c ≡ at + (i + c) = omega arith in
      rw e
      (ap (sets d (at + i)) (table-append f c i (n - (i + c)))
      ∙ sets-append (table f i c) (table f (i + c) (n - (i + c))) d (at + i)
      ∙ rw (length-table f i c, g))

  -- ---- a copy of s; i elements are written, and j is the place of the next

  pub sets-copy-more : (s d : List A) (z : A) (j i next : ℕ) → i < length s → next ≡ j + 1
      → sets d j (drop i s) ≡ sets (set d j (get_or s i z)) next (drop (i + 1) s)
  sets-copy-more s d z j i next h n =
      sets-cons d (drop i s) (get_or s i z) (drop (i + 1) s) j next (rw add-one (drop-cons s i z h)) n

  pub sets-copy-end : (s d : List A) (j i : ℕ) → length s ≤ i → sets d j (drop i s) ≡ d
  sets-copy-end s d j i h = ap (sets d j) (drop_of_length-le s h)

  -- ---- the same element x, up to `to`

  pub sets-same-end : (x : A) (to i : ℕ) (d : List A) → to ≤ i → sets d i (replicate (to - i) x) ≡ d
  sets-same-end x to i d h = let e : to - i ≡ 0 = omega arith in rw e

-- ---- a number of w bytes; y is what is left of it after i of them

pub sets-le-start : (d : List ℕ) (at w x : ℕ) → sets d at (le w x) ≡ sets d (at + 0) (le (w - 0) x)
sets-le-start d at w x = rw (add-zero, sub-zero)

pub sets-le-more : (d : List ℕ) (at w y i : ℕ) → i < w
    → sets d (at + i) (le (w - i) y) ≡ sets (set d (at + i) (y % 256)) (at + (i + 1)) (le (w - (i + 1)) (y / 256))
unfolding le
sets-le-more d at w y i h =
    let e : w - i ≡ suc (w - (i + 1)) = omega arith in
    let n : at + (i + 1) ≡ suc (at + i) = omega arith in
    rw (e, n)

pub sets-le-end : (d : List ℕ) (at w y i : ℕ) → w ≤ i → sets d (at + i) (le (w - i) y) ≡ d
unfolding le
sets-le-end d at w y i h = let e : w - i ≡ 0 = omega arith in rw e

-- ---- beside what is written

pub get_or-sets-below : (vs d : List ℕ) (i j : ℕ) → j < i → get_or (sets d i vs) j 0 ≡ get_or d j 0
get_or-sets-below [] d i j h = refl
get_or-sets-below (x ∷ vs) d i j h =
    get_or-sets-below vs (set d i x) (suc i) j (omega arith) ∙ get_or-set_other d i j x 0 (λ q. omega arith)

pub get_or-sets-above : (vs d : List ℕ) (i j : ℕ) → i + length vs ≤ j → get_or (sets d i vs) j 0 ≡ get_or d j 0
get_or-sets-above [] d i j h = refl
get_or-sets-above (x ∷ vs) d i j h =
    get_or-sets-above vs (set d i x) (suc i) j (omega arith) ∙ get_or-set_other d i j x 0 (λ q. omega arith)

-- ---- a table of numbers at the front of a list, one a turn

-- what is read of it, and behind it
module _ (f : ℕ → ℕ) (n : ℕ) (d : List ℕ) where
  pub sets-table-at : n ≤ length d → (i : ℕ) → i < n → get_or (sets d 0 (table f 0 n)) i 0 ≡ f i
  sets-table-at space i h =
      ap (λ (j : ℕ). get_or (sets d 0 (table f 0 n)) j 0) (sym (zero-add i))
      ∙ get_or-sets (table f 0 n) d 0 0 i (rw length-table h) (rw length-table (omega arith))
      ∙ get_or-table f 0 0 n i h
      ∙ ap f (zero-add i)

  pub sets-table-above : (i : ℕ) → n ≤ i → get_or (sets d 0 (table f 0 n)) i 0 ≡ get_or d i 0
  sets-table-above i h = get_or-sets-above (table f 0 n) d 0 i (rw length-table (omega arith))

-- writing all from the start equals writing the rest from i on
pub record Left (f : ℕ → ℕ) (n : ℕ) (out₀ out : List ℕ) (i : ℕ) : Type 0 where
  pub same : length out ≡ length out₀
  pub rest : sets out₀ 0 (table f 0 n) ≡ sets out i (table f i (n - i))

pub left-start : (f : ℕ → ℕ) (n : ℕ) (out : List ℕ) → Left f n out out 0
left-start f n out = record { same = refl; rest = rw sub-zero }

module _ {f : ℕ → ℕ} {n : ℕ} {out₀ out : List ℕ} {i : ℕ} (left : Left f n out₀ out i) where
  -- with word i
  pub left-more : (x : ℕ) → i < n → x ≡ f i → Left f n out₀ (set out i x) (i + 1)
  left-more x h e =
      record {
        same = length-set out i x ∙ left.same;
        rest = left.rest ∙ rw e (sets-cons out _ (f i) _ i (i + 1) (table-rest f n i h) refl);
      }

  -- len more elements at once
  pub left-part : (len : ℕ) (next : List ℕ) → i + len ≤ n → next ≡ sets out i (table f i len)
      → Left f n out₀ next (i + len)
  left-part len next inside is =
      record {
        same = ap length is ∙ length-sets out i (table f i len) ∙ left.same;
        rest = left.rest ∙ rw is (rw (zero-add i, zero-add (i + len)) at (sets-table-part f 0 n i len out inside));
      }

  pub left_end : n ≤ i → out ≡ sets out₀ 0 (table f 0 n)
  left_end h = sym (left.rest ∙ ap (sets out i) (table_done f n i h))

  pub left-whole : n ≤ i → length out₀ ≡ n → out ≡ table f 0 n
  left-whole h long = left_end h ∙ sets-whole out₀ (table f 0 n) (length-table f 0 n ∙ sym long)
