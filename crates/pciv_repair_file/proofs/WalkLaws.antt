-- A walk over the overflow entries that judges each against the last one kept.
--   Judged P j lowest     the entries below j are judged; entry j may have `lowest` at the least
--   judged-start, -more   before the first entry, and one entry on
--   judged-kept           an entry is kept where the least slot goes up
--   judged-entry, -dropped, -same    what is known of it then, and otherwise
--   kept_count P j         how many of the entries below j are kept
--   kept_count-none, -more, -kept, -dropped, -le, -all    before the first entry, and one on; all entries
--   full_count-is          how many primary bytes are 255
-- Axioms: none.
use mathlib.Core.Path.{◌≡◌, refl, sym, ap, ◌∙◌}
use Prim.Native.Nat.{ℕ, ◌+◌, ◌≤◌, ◌<◌}
use native.Mathlib.Nat.{zero-add}
use native.Mathlib.Numerals.{add-one}
use native.Mathlib.Omega.{arith}
use mathlib.Core.Bool.{Bool, true, false}
use mathlib.Core.List.{List, [], ◌++◌}
use lib.ListN.{length, length-append}
use lib.Dec.{ltb}
use borrow.Author.Tests.{lt-ltb, le-ltb}
use Rattle.pciv_bytes.specs.Ranges.{flag, positions, keep_if, sum_from}
use Rattle.pciv_bytes.proofs.PositionsLaws.{positions-append, positions-count}
use Rattle.pciv_format.specs.Parts.{Parts}
use Rattle.pciv_format.specs.Check.{file_parts}
use Rattle.pciv_format.proofs.FullCountLaws.{is_full}
use Rattle.pciv_repair_file.specs.Repaired.{lowest_after, lowest_kept, is_kept, kept_entries, full_count}
use Rattle.pciv_repair_file.proofs.KeptLaws.{lowest_kept-next, KeptEntry, kept_entry, dropped-next, is_kept-next}

pub record Judged (P : Parts) (j lowest : ℕ) : Type 0 where
  pub inside : j ≤ P.k
  pub lowest_is : lowest ≡ lowest_kept P j

pub judged-start : (P : Parts) → Judged P 0 0
unfolding lowest_kept
judged-start P = record { inside = omega arith; lowest_is = refl }

module _ {P : Parts} {j lowest : ℕ} (e : Judged P j lowest) (next : ℕ) (is : next ≡ lowest_after P lowest j) where
  next-is : next ≡ lowest_kept P (j + 1)
  next-is = is ∙ rw (e.lowest_is, add-one j) (sym (lowest_kept-next P j))

  pub judged-more : j < P.k → Judged P (j + 1) next
  judged-more h = record { inside = omega arith; lowest_is = next-is }

  pub judged-kept : is_kept P j ≡ ltb lowest next
  judged-kept = is_kept-next P j ∙ rw (e.lowest_is, next-is, add-one j)

  pub judged-entry : lowest < next → (is_kept P j ≡ true) × KeptEntry P j × (next ≡ P.slot j + 1)
  judged-entry h =
      let kept : is_kept P j ≡ true = judged-kept ∙ lt-ltb lowest next h in
      let entry : KeptEntry P j = kept_entry P j kept in
      (kept, entry, next-is ∙ rw (add-one j) entry.next)

  pub judged-dropped : next ≤ lowest → is_kept P j ≡ false
  judged-dropped h = judged-kept ∙ le-ltb lowest next h

  pub judged-same : next ≤ lowest → next ≡ lowest
  judged-same h = next-is ∙ rw (add-one j) (dropped-next P j (judged-dropped h)) ∙ sym e.lowest_is

-- ---- how many are kept

abbrev pub kept_count : Parts → ℕ → ℕ
kept_count P j = length (positions (is_kept P) 0 j)

pub kept_count-none : (P : Parts) → kept_count P 0 ≡ 0
unfolding positions
kept_count-none P = refl

module _ (P : Parts) (j : ℕ) where
  pub kept_count-more : kept_count P (j + 1) ≡ kept_count P j + flag (is_kept P j)
  unfolding positions
  kept_count-more =
      ap length (positions-append (is_kept P) 0 j 1)
      ∙ ap (λ (i : ℕ). length (positions (is_kept P) 0 j ++ keep_if (is_kept P i) i [])) (zero-add j)
      ∙ length-append (positions (is_kept P) 0 j) (keep_if (is_kept P j) j [])
      ∙ ap (λ (x : ℕ). kept_count P j + x) (go (is_kept P j))
    where
      go : (b : Bool) → length (keep_if b j []) ≡ flag b
      go true = refl
      go false = refl

  pub kept_count-kept : is_kept P j ≡ true → kept_count P (j + 1) ≡ kept_count P j + 1
  kept_count-kept e = kept_count-more ∙ rw e

  pub kept_count-dropped : is_kept P j ≡ false → kept_count P (j + 1) ≡ kept_count P j
  kept_count-dropped e = kept_count-more ∙ rw e (omega arith)

  pub kept_count-le : kept_count P j ≤ j
  kept_count-le = positions-count (is_kept P) 0 j

pub kept_count-all : (P : Parts) → length (kept_entries P) ≡ kept_count P P.k
unfolding kept_entries
kept_count-all P = refl

pub full_count-is : (b : List ℕ) (n k : ℕ) → full_count b n ≡ sum_from (is_full (file_parts b n k)) 0 n
unfolding full_count
full_count-is b n k = refl
