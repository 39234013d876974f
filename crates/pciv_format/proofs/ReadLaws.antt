-- Laws of the list that a file is read as, and of items that are written to a list.
--   length-list_of, at-list_of    its length and elements
--   list_of-is, at-list          the same at the counts n and k that the code holds
--   total-is                    the sum of all distances
--   items-fit, items-short      items into a list that holds them, or not
-- Axioms: none.
use Rattle.std.proofs.Common.{Ok}
use Rattle.pciv_format.specs.declared.RefusalKind.TheVariants.{BufferTooSmall}
use mathlib.Core.Path.{◌≡◌, ap, ap₂, ◌∙◌}
use Prim.Native.Nat.{ℕ, ◌≤◌, ◌<◌}
use native.Mathlib.Nat.{zero-add}
use native.Mathlib.Omega.{arith}
use mathlib.Core.List.{List}
use lib.ListN.{length}
use borrow.Author.Tests.{lt-ltb, le-ltb}
use Rattle.pciv_bytes.specs.Ranges.{table, sum_from}
use Rattle.pciv_bytes.proofs.RangesLaws.{length-table, get_or-table}
use Rattle.pciv_bytes.proofs.SumLaws.{sum_from-cong}
use Rattle.pciv_format.specs.Layout.{at}
use Rattle.pciv_format.specs.Refusals.{refuse}
use Rattle.pciv_format.specs.Parts.{value_of}
use Rattle.pciv_format.specs.Check.{n_field, k_field, file_parts}
use Rattle.pciv_format.specs.Read.{value_at, list_of, items_into, total}

pub length-list_of : (b : List ℕ) → length (list_of b) ≡ n_field b
unfolding list_of
length-list_of b = length-table (value_at b) 0 (n_field b)

pub at-list_of : (b : List ℕ) (i : ℕ) → i < n_field b → at (list_of b) i ≡ value_at b i
unfolding list_of
at-list_of b i h = get_or-table (value_at b) 0 0 (n_field b) i h ∙ ap (value_at b) (zero-add i)

-- the same at the counts n and k that the code holds
module _ (b : List ℕ) (n k : ℕ) (n_is : n_field b ≡ n) (k_is : k_field b ≡ k) where
  pub list_of-is : list_of b ≡ table (value_of (file_parts b n k)) 0 n
  unfolding list_of
  list_of-is = ap₂ (λ (x y : ℕ). table (value_of (file_parts b x y)) 0 x) n_is k_is

  pub at-list : (i : ℕ) → i < n → at (list_of b) i ≡ value_of (file_parts b n k) i
  at-list i h = rw (n_is, k_is) at (at-list_of b i (omega (arith, n_is)))

  pub total-is : total (list_of b) ≡ sum_from (value_of (file_parts b n k)) 0 n
  unfolding total
  total-is =
      rw (length-list_of b, n_is)
      (sum_from-cong (at (list_of b)) (value_of (file_parts b n k)) 0 n (λ i h₁ h₂. at-list i (omega arith)))

-- ---- items that fit

pub items-fit : (c capacity : ℕ) → c ≤ capacity → items_into c capacity ≡ Ok c
items-fit c capacity h = rw (le-ltb capacity c h)

pub items-short : (c capacity : ℕ) → capacity < c → items_into c capacity ≡ refuse BufferTooSmall 0 0
items-short c capacity h = rw (lt-ltb capacity c h)
