-- The file of a map, cut where its parts end.
--   file-entries    the stretch of its overflow entries
--   file-index      what stands behind them
-- Axioms: none.
use mathlib.Core.Path.{◌≡◌, sym, ap, ◌∙◌}
use Prim.Native.Nat.{ℕ, ◌+◌, ◌*◌}
use mathlib.Core.List.{◌++◌}
use lib.ListN.{take, drop}
use lib.Seq.{take_at, drop_at, drop-drop}
use Rattle.pciv_format.specs.Layout.{primary, overflow_slots, overflow_count, overflow_part, index_part, header, file}
use Rattle.pciv_format.proofs.LayoutLaws.{length-header, length-primary, length-overflow_part}

module _ (n : ℕ) (v : ℕ → ℕ) where
  after-primary : drop (40 + n) (file n v) ≡ overflow_part n v ++ index_part (overflow_slots n v)
  unfolding file
  after-primary =
      sym (drop-drop n 40 (file n v))
      ∙ ap (drop n) (drop_at (header n (overflow_count n v)) _ 40 (length-header n (overflow_count n v)))
      ∙ drop_at (primary n v) _ n (length-primary n v)

  pub file-entries : take (12 * overflow_count n v) (drop (40 + n) (file n v)) ≡ overflow_part n v
  file-entries =
      ap (take (12 * overflow_count n v)) after-primary
      ∙ take_at (overflow_part n v) _ (12 * overflow_count n v) (length-overflow_part n v)

  pub file-index : drop (40 + n + 12 * overflow_count n v) (file n v) ≡ index_part (overflow_slots n v)
  file-index =
      sym (drop-drop (12 * overflow_count n v) (40 + n) (file n v))
      ∙ ap (drop (12 * overflow_count n v)) after-primary
      ∙ drop_at (overflow_part n v) _ (12 * overflow_count n v) (length-overflow_part n v)
