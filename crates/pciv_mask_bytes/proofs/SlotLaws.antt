-- A table written to a list part by part, and a table that stands in a list.
--   written-more, written-one    i elements of the table f are written, then c more, or one
--   part-table                   a part of a list that is a table
-- Axioms: none.
use Rattle.std.proofs.Common.{◌≡◌, refl, sym, ap, ◌∙◌, ℕ, ◌+◌, ◌≤◌, ◌<◌, List, ◌∷◌, [], length, get_or, take, drop, arith}
use Rattle.std.proofs.lemmas.Grind.{common_steps, same_number_lists}
use lib.Seq.{sets}
use lib.ListN.{set}
use native.Mathlib.Nat.{zero-add}
use Rattle.pciv_bytes.specs.Ranges.{table}
use Rattle.pciv_bytes.proofs.RangesLaws.{length-table, get_or-table, table-append}
use Rattle.pciv_bytes.proofs.WriteLaws.{sets-append}

module _ (f : ℕ → ℕ) (at : ℕ) (d : List ℕ) (i : ℕ) {out : List ℕ} (here : out ≡ sets d at (table f 0 i)) where
  pub written-more : (c j : ℕ) {next xs : List ℕ} → next ≡ sets out (at + i) xs → xs ≡ table f i c → j ≡ i + c
      → next ≡ sets d at (table f 0 j)
  written-more c j put is e =
      rw (put, is, here, e)
      (sym
      (ap (sets d at) (table-append f i 0 c)
      ∙ sets-append (table f 0 i) (table f (0 + i) c) d at
      ∙ rw (length-table f 0 i, zero-add i)))

  pub written-one : (x : ℕ) → x ≡ f i → set out (at + i) x ≡ sets d at (table f 0 (i + 1))
  unfolding table
  written-one x is = rw is (written-more 1 (i + 1) {xs = f i ∷ []} refl refl refl)

pub part-table : (xs : List ℕ) (f : ℕ → ℕ) (s i c : ℕ) → s + c ≤ length xs
    → ((j : ℕ) → j < c → get_or xs (s + j) 0 ≡ f (i + j)) → take c (drop s xs) ≡ table f i c
part-table xs f s i c inside same =
    same_number_lists (take c (drop s xs)) (table f i c) (grind (arith, common_steps, length-table f i c))
    (λ j h.
    let b : j < c = grind (arith, common_steps) in
    grind (arith, common_steps, same j b, get_or-table f 0 i c j b))
