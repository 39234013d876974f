-- Every line of the list is true, and the lines stand in their order.
--   Every Q cs            every change of cs has Q
--   every_append, _map    of two lists, and of changes made of numbers
--   Sorted from cs        cs are in order, and of kind `from` at the least
--   sorted-lines          changes of one kind, made of the numbers with p, in front of changes of later kinds
--   corrections-true      every line tells a change that the repair makes
--   corrections-order     the lines go by kind, and those of a kind by rising place
-- Axioms: none.
use mathlib.Core.Path.{◌≡◌, refl, sym, ap, ◌∙◌}
use mathlib.Core.Logic.{inl, inr}
use Prim.Native.Nat.{ℕ, zero, suc, ◌*◌, ◌≤◌, ◌<◌}
use native.Mathlib.Omega.{arith}
use mathlib.Core.Bool.{Bool, true, false, not, cond}
use mathlib.Core.List.{List, [], ◌∷◌, ◌++◌, map}
use lib.ListN.{length, get_or, length-map}
use borrow.Author.Tests.{eqb-false, not-true}
use Rattle.pciv_bytes.specs.Ranges.{positions}
use Rattle.pciv_bytes.specs.LittleEndian.{Bytes}
use Rattle.pciv_bytes.proofs.RangesLaws.{true-false, get_or-map_inside}
use Rattle.pciv_bytes.proofs.PositionsLaws.{rises, positions-at, positions-rise}
use Rattle.pciv_format.specs.Layout.{overflow_count}
use Rattle.pciv_format.specs.Parts.{Parts}
use Rattle.pciv_format.specs.Check.{m_field, file_parts}
use Rattle.pciv_format.proofs.LayoutLaws.{length-index_part}
use Rattle.pciv_repair_file.specs.Repaired.{is_kept, is_set, repaired_file, bytes_after, rebuilt_index}
use Rattle.pciv_repair_file.specs.Repaired.{same, PartsGiven}
use Rattle.pciv_repair_file.proofs.KeptLaws.{set_full, set-byte}
use Rattle.pciv_repair_file.proofs.SameLaws.{same_refl}
use Rattle.pciv_repair.specs.Repair.{Correction, field_line, other_field, dropped_line, set_line, index_line}
use Rattle.pciv_repair.specs.Repair.{field_lines, dropped_lines, set_lines, index_lines, corrections}
use Rattle.pciv_repair.specs.Applied.{Before, TrueLine, true_field, true_dropped, true_set, true_index}
use Rattle.pciv_repair.proofs.RebuiltLaws.{rebuilt-header, rebuilt-byte, rebuilt-index}
use Rattle.pciv_repair.proofs.FieldLaws.{field_at-rises}

-- ---- every change of a list

abbrev pub Every : (Correction → Type 0) → List Correction → Type 0
Every Q cs = (l : ℕ) (d : Correction) → l < length cs → Q (get_or cs l d)

module _ (Q : Correction → Type 0) where
  pub every_append : (xs ys : List Correction) → Every Q xs → Every Q ys → Every Q (xs ++ ys)
  every_append [] ys left right l d h = right l d h
  every_append (x ∷ xs) ys left right zero d h = left 0 d (omega arith)
  every_append (x ∷ xs) ys left right (suc l) d h =
      every_append xs ys (λ l d h. left (suc l) d (omega arith)) right l d (omega arith)

  pub every_map : (line : ℕ → Correction) (js : List ℕ) → ((c : ℕ) → c < length js → Q (line (get_or js c 0)))
      → Every Q (map line js)
  every_map line [] each l d h = absurd (omega arith)
  every_map line (j ∷ js) each zero d h = each 0 (omega arith)
  every_map line (j ∷ js) each (suc l) d h = every_map line js (λ c h. each (suc c) (omega arith)) l d (omega arith)

  every_one : (c : Correction) (test : Bool) → (test ≡ false → Q c) → Every Q (cond test [] (c ∷ []))
  every_one c true each l d h = absurd (omega arith)
  every_one c false each zero d h = each refl
  every_one c false each (suc l) d h = absurd (omega arith)

-- ---- changes in their order

abbrev Ordered : List Correction → Type 0
Ordered cs = (l m : ℕ) (d : Correction) → l < m → m < length cs → Before (get_or cs l d) (get_or cs m d)

-- of kind `from` at the least
pub record Sorted (from : ℕ) (cs : List Correction) : Type 0 where
  pub ordered : Ordered cs
  pub low : Every (λ (c : Correction). from ≤ c.kind) cs

-- in front of changes of later kinds
sorted_front : (kind : ℕ) (xs ys : List Correction) → Ordered xs → Every (λ (c : Correction). c.kind ≡ kind) xs
    → Sorted (suc kind) ys → Ordered (xs ++ ys)
sorted_front kind [] ys order kinds later l m d h₁ h₂ = later.ordered l m d h₁ h₂
sorted_front kind (x ∷ xs) ys order kinds later l zero d h₁ h₂ = absurd (omega arith)
sorted_front kind (x ∷ xs) ys order kinds later zero (suc m) d h₁ h₂ =
    every_append (Before x) xs ys (λ l d h. order 0 (suc l) d (omega arith) (omega arith))
    (λ l d h. inl (omega (arith, kinds 0 d (omega arith), later.low l d h))) m d (omega arith)
sorted_front kind (x ∷ xs) ys order kinds later (suc l) (suc m) d h₁ h₂ =
    sorted_front kind xs ys (λ l m d h₁ h₂. order (suc l) (suc m) d (omega arith) (omega arith))
    (λ l d h. kinds (suc l) d (omega arith)) later l m d (omega arith) (omega arith)

sorted_more : (kind : ℕ) (xs ys : List Correction) → Ordered xs → Every (λ (c : Correction). c.kind ≡ kind) xs
    → Sorted (suc kind) ys → Sorted kind (xs ++ ys)
sorted_more kind xs ys order kinds later =
    record {
      ordered = sorted_front kind xs ys order kinds later;
      low = every_append (λ (c : Correction). kind ≤ c.kind) xs ys (λ l d h. omega (arith, kinds l d h))
          (λ l d h. omega (arith, later.low l d h));
    }

sorted-one : (kind : ℕ) (c : Correction) (test : Bool) → c.kind ≡ kind → Sorted kind (cond test [] (c ∷ []))
sorted-one kind c test e =
    record {
      ordered = go test;
      low = every_one (λ (c : Correction). kind ≤ c.kind) c test (λ _. omega (arith, e));
    }
  where
    go : (test : Bool) → Ordered (cond test [] (c ∷ []))
    go true l m d h₁ h₂ = absurd (omega arith)
    go false l m d h₁ h₂ = absurd (omega arith)

-- changes of one kind, made of the numbers with p
module _ (line : ℕ → Correction) (kind : ℕ) (kind_is : (j : ℕ) → (line j).kind ≡ kind)
    (rise : (j t : ℕ) → j < t → (line j).place < (line t).place) (p : ℕ → Bool) (c : ℕ) where
  lines-ordered : Ordered (map line (positions p 0 c))
  lines-ordered l m d h₁ h₂ =
      let js : List ℕ = positions p 0 c in
      let inside : m < length js = omega (arith, length-map js line) in
      let e : get_or (map line js) l d ≡ line (get_or js l 0) = get_or-map_inside line js l 0 d (omega arith) in
      let e' : get_or (map line js) m d ≡ line (get_or js m 0) = get_or-map_inside line js m 0 d inside in
      let place : Correction → ℕ = λ c. c.place in
      let rises-here : get_or js l 0 < get_or js m 0 =
      rises (λ (i : ℕ). get_or js i 0) (length js) (positions-rise p 0 c) l m h₁ inside in
      inr (
        ap (λ (c : Correction). c.kind) e ∙ kind_is _ ∙ sym (ap (λ (c : Correction). c.kind) e' ∙ kind_is _),
        omega (arith, ap place e, ap place e', rise (get_or js l 0) (get_or js m 0) rises-here),
      )

  pub sorted-lines : (ys : List Correction) → Sorted (suc kind) ys → Sorted kind (map line (positions p 0 c) ++ ys)
  sorted-lines ys later =
      sorted_more kind (map line (positions p 0 c)) ys lines-ordered
      (every_map (λ (c : Correction). c.kind ≡ kind) line (positions p 0 c) (λ i h. kind_is _)) later

-- ---- the list of a repair

module _ (b : List ℕ) (n k : ℕ) (bytes : Bytes b) (given : PartsGiven b n k) where
  fields-true : Every (TrueLine b n k) (field_lines b n k)
  fields-true =
      let f : List ℕ = repaired_file b n k in
      every_map (TrueLine b n k) (field_line b f) (positions (other_field b f) 0 6)
      (λ c h.
      (let q = positions-at (other_field b f) 0 6 c h in
      true_field (get_or (positions (other_field b f) 0 6) c 0) (omega (arith, q.high))
      (eqb-false _ _ (not-true _ q.has)) refl))

  dropped-true : Every (TrueLine b n k) (dropped_lines b n k)
  dropped-true =
      let p : ℕ → Bool = λ j. not (is_kept (file_parts b n k) j) in
      every_map (TrueLine b n k) (dropped_line b n k) (positions p 0 k)
      (λ c h.
      (let q = positions-at p 0 k c h in
      true_dropped (get_or (positions p 0 k) c 0) (omega (arith, q.high)) (not-true _ q.has) refl))

  set-true : Every (TrueLine b n k) (set_lines b n k)
  set-true =
      let P : Parts = file_parts b n k in
      every_map (TrueLine b n k) set_line (positions (is_set P) 0 n)
      (λ c h.
      (let i : ℕ = get_or (positions (is_set P) 0 n) c 0 in
      let q = positions-at (is_set P) 0 n c h in
      let inside : i < n = omega (arith, q.high) in
      true_set i inside (set_full P i q.has) (rebuilt-byte b n k bytes given i inside ∙ set-byte P i q.has) refl))

  index-length : length (rebuilt_index b n k) ≡ 16 * m_field (repaired_file b n k)
  unfolding overflow_count
  index-length =
      length-index_part _ ∙ ap (λ (m : ℕ). 16 * m) (sym (rebuilt-header b n k bytes given).m_is)

  index-true : Every (TrueLine b n k) (index_lines b n k)
  index-true =
      let after : List ℕ = bytes_after b n k in
      let index : List ℕ = rebuilt_index b n k in
      every_one (TrueLine b n k) (index_line (length after) (length index)) (same after index)
      (λ other.
      true_index
      (λ e. true-false (sym (same_refl after index (e ∙ rebuilt-index b n k bytes given)) ∙ other))
      (ap (index_line (length after)) index-length))

  -- every line tells a change that the repair makes, with the numbers before and after it
  pub corrections-true : (l : ℕ) (d : Correction) → l < length (corrections b n k)
      → TrueLine b n k (get_or (corrections b n k) l d)
  unfolding corrections
  corrections-true =
      every_append (TrueLine b n k) (field_lines b n k) _ fields-true
      (every_append (TrueLine b n k) (dropped_lines b n k) _ dropped-true
      (every_append (TrueLine b n k) (set_lines b n k) (index_lines b n k) set-true index-true))

corrections-sorted : (b : List ℕ) (n k : ℕ) → Sorted 1 (corrections b n k)
unfolding corrections
corrections-sorted b n k =
    let P : Parts = file_parts b n k in
    let f : List ℕ = repaired_file b n k in
    sorted-lines (field_line b f) 1 (λ j. refl) field_at-rises (other_field b f) 6 _
    (sorted-lines (dropped_line b n k) 2 (λ j. refl) (λ j t h. h) (λ (j : ℕ). not (is_kept P j)) k _
    (sorted-lines set_line 3 (λ j. refl) (λ j t h. h) (is_set P) n _
    (sorted-one 4 (index_line (length (bytes_after b n k)) (length (rebuilt_index b n k)))
    (same (bytes_after b n k) (rebuilt_index b n k)) refl)))

-- the lines go by kind, and those of one kind by rising place; so no line stands twice
pub corrections-order : (b : List ℕ) (n k l m : ℕ) (d : Correction) → l < m → m < length (corrections b n k)
    → Before (get_or (corrections b n k) l d) (get_or (corrections b n k) m d)
corrections-order b n k l m d h₁ h₂ = (corrections-sorted b n k).ordered l m d h₁ h₂
