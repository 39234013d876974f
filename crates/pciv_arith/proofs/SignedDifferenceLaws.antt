-- What `signed_difference` answers and leaves, case by case: a refused pair, or two maps with counts c.
--   difference-refused, -short    the pair is refused, or the list is too short
--   difference-kept               the list after a refusal
--   difference-written            else the differences are written
-- Axioms: none.
use Rattle.std.proofs.Common.{Ok, Err}
use Rattle.pciv_format.specs.declared.RefusalKind.TheVariants.{BufferTooSmall}
use mathlib.Core.Path.{◌≡◌, sym, ◌∙◌}
use Prim.Native.Nat.{ℕ, ◌≤◌, ◌<◌}
use native.Mathlib.Omega.{arith}
use mathlib.Core.List.{List}
use lib.ListN.{length}
use lib.IntN.{ℤ, pos, ◌-ℤ◌}
use borrow.Author.Tests.{lt-ltb, le-ltb}
use Rattle.pciv_bytes.specs.Ranges.{table}
use Rattle.pciv_bytes.proofs.RangesLaws.{length-table, table-cong}
use Rattle.pciv_bytes.proofs.WriteLaws.{sets-front}
use Rattle.pciv_format.specs.Layout.{at}
use Rattle.pciv_format.specs.Refusals.{refuse}
use Rattle.pciv_format.specs.Parts.{value_of}
use Rattle.pciv_format.specs.Check.{file_parts}
use Rattle.pciv_format.specs.Read.{list_of, items_into}
use Rattle.pciv_format.specs.Arith.{signed_differences, signed_difference_outcome, signed_difference_list}
use Rattle.pciv_format.specs.declared.Refusal.{Refusal}
use Rattle.pciv_format.proofs.ReadLaws.{length-list_of}
use Rattle.pciv_check.specs.Pair.{pair_counts, CheckedPair}
use Rattle.pciv_check.specs.declared.pair.PairCounts.{PairCounts}
use Rattle.pciv_check.proofs.PairLaws.{pair-checked, pair_outcome-ready, pair_outcome-refused}
use Rattle.pciv_arith_change.specs.Differences.{difference_at}
use Rattle.pciv_arith_change.proofs.DifferencesLaws.{with_both}
use Rattle.pciv_arith.proofs.ArithLaws.{pair_values}

pub difference-refused : (a b : List ℕ) (r : Refusal) → pair_counts a b ≡ Err r → (capacity : ℕ)
    → signed_difference_outcome a b capacity ≡ Err r
unfolding signed_difference_outcome
difference-refused a b r e capacity = pair_outcome-refused a b (λ n. items_into n capacity) r e

pub difference-kept : (a b : List ℕ) (r : Refusal) (out : List ℤ) → signed_difference_outcome a b (length out) ≡ Err r
    → out ≡ signed_difference_list a b out
unfolding signed_difference_list
difference-kept a b r out e = rw e

module _ (a b : List ℕ) (c : PairCounts) (e : pair_counts a b ≡ Ok c) where
  pub difference-short : (capacity : ℕ) → capacity < c.n → signed_difference_outcome a b capacity ≡ refuse BufferTooSmall 0 0
  unfolding signed_difference_outcome
  difference-short capacity h = pair_outcome-ready a b (λ n. items_into n capacity) c e ∙ rw (lt-ltb capacity c.n h)

  difference-done : (capacity : ℕ) → c.n ≤ capacity → signed_difference_outcome a b capacity ≡ Ok c.n
  unfolding signed_difference_outcome
  difference-done capacity h = pair_outcome-ready a b (λ n. items_into n capacity) c e ∙ rw (le-ltb capacity c.n h)

  -- the difference of slot i
  abbrev f : ℕ → ℤ
  f = difference_at (value_of (file_parts a c.n c.ka)) (value_of (file_parts b c.n c.kb))

  differences-are : signed_differences (list_of a) (list_of b) ≡ table f 0 c.n
  unfolding signed_differences
  differences-are =
      let p : CheckedPair a b c.n c.ka c.kb = pair-checked a b c e in
      rw (length-list_of a, p.first.header.n_is)
      (table-cong (λ (i : ℕ). pos (at (list_of b) i) -ℤ pos (at (list_of a) i)) f 0 c.n
      (λ i inside. pair_values (λ (x y : ℕ). pos y -ℤ pos x) a b c p i (omega arith)))

  pub difference-written : (out d : List ℤ) → c.n ≤ length out → d ≡ with_both a b c.n c.ka c.kb out
      → (Ok c.n ≡ (signed_difference_outcome a b (length out))) × (d ≡ signed_difference_list a b out)
  unfolding signed_difference_list
  difference-written out d h put =
      let o = difference-done (length out) h in (
        (sym o),
        put ∙ rw (o, differences-are) (sets-front (table f 0 c.n) out (rw length-table h)),
      )
