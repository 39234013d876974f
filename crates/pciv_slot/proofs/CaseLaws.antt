-- An edit of a slot of a checked map: its old and new distance, and what the editor answers and leaves where it stays
-- inline or in overflow. A slot that moves into or out of overflow: ChangeLaws.antt.
--   holds                  the file at the front of the buffer
--   new-at, file-edited    the list after the edit, at the slot, and its file
--   edit-counted           the answer is that of beginning a file with the new number of overflow entries, with the new sum
--   old-inline, -overflow  the slot's old distance, by its primary byte
--   sum-after              the sum after the edit, by that before and the old distance
--   below-count            how many entries stand before the slot's;  entry-inside  in overflow, the slot has one
--   stays-inline, -overflow    answer and buffer where the slot stays inline, or in overflow, and no entry is moved
-- Axioms: none.
use Rattle.std.proofs.Common.{Ok}
use Rattle.pciv_format.specs.declared.RefusalKind.TheVariants.{BufferTooSmall}
use mathlib.Core.Path.{◌≡◌, sym, ap, ap₂, ◌∙◌}
use Prim.Native.Nat.{ℕ, ◌+◌, ◌-◌, ◌*◌, ◌^◌, ◌≤◌, ◌<◌}
use native.Mathlib.Omega.{arith}
use mathlib.Core.Bool.{Bool}
use mathlib.Core.List.{List, ◌++◌}
use lib.ListN.{length, get_or, drop, set}
use lib.Seq.{sets}
use lib.Dec.{ltb, leb}
use borrow.Author.Tests.{le-leb, lt-leb}
use Rattle.pciv_bytes.specs.Ranges.{sum_from}
use Rattle.pciv_bytes.specs.LittleEndian.{le, Bytes}
use Rattle.pciv_format.specs.Layout.{file_len, overflow_count, file, counts_of, summarize, summary, at}
use Rattle.pciv_format.specs.Layout.{file_of}
use Rattle.pciv_format.specs.Refusals.{Outcome, refuse, refuse_if}
use Rattle.pciv_format.specs.Parts.{value_of}
use Rattle.pciv_format.specs.Check.{file_parts}
use Rattle.pciv_format.specs.Read.{total, with_sum}
use Rattle.pciv_format.specs.Edit.{Edit, edited, plain_outcome, edit_outcome, edit_moved, edit_buffer, entry_place}
use Rattle.pciv_format.specs.declared.Counts.{Counts}
use Rattle.pciv_format.specs.declared.Summary.{Summary}
use Rattle.pciv_format.proofs.PartsLaws.{value_of-inline, entry-good}
use Rattle.pciv_format.proofs.LayoutLaws.{length-file, overflow_count-cong}
use Rattle.pciv_format.proofs.MapLaws.{sum_lt}
use Rattle.pciv_format.proofs.FrontLaws.{Holds, checked-front}
use Rattle.pciv_format.proofs.EditLaws.{edited-at, edited-other, length-edited, count-stays}
use Rattle.pciv_format.proofs.LimitLaws.{edit-stays-inline, edit-stays-overflow}
use Rattle.pciv_format.proofs.EditCaseLaws.{held, edit-checked}
use Rattle.pciv_format.proofs.SummaryLaws.{at-total-le, sum-edited, total-front}
use Rattle.pciv_format.proofs.MovedLaws.{moved-done, moved-stays}
use Rattle.pciv_map_lookup.specs.Lookup.{entries_below}
use Rattle.pciv_map_lookup.proofs.LookupLaws.{value_of-entry, entries_below-count}
use Rattle.pciv_build.specs.Build.{begin_outcome}
use Rattle.pciv_build.proofs.BuildLaws.{begin-fits, refuse_if-sum}
use Rattle.pciv_slot.specs.Change.{EditAt}

module _ (b : List ℕ) (n k : ℕ) (bytes : Bytes b) (e : Edit) (p : EditAt b n k e.slot) where
  pub holds : Holds b n k (held b)
  holds = checked-front b n k bytes p.checked

  slot-in : e.slot < length (held b)
  slot-in = omega (arith, holds.slots, p.inside)

  pub new-at : at (edited (held b) e) e.slot ≡ e.distance
  new-at = edited-at (held b) e slot-in

  slots : length (edited (held b) e) ≡ n
  slots = length-edited (held b) e ∙ holds.slots

  pub file-edited : file_of (edited (held b) e) ≡ file n (at (edited (held b) e))
  file-edited = ap (λ (m : ℕ). file m (at (edited (held b) e))) slots

  pub edit-counted : (count : ℕ) → count ≡ overflow_count n (at (edited (held b) e))
      → edit_outcome b e ≡ with_sum (begin_outcome n count (length b)) (total (edited (held b) e))
  unfolding plain_outcome begin_outcome summary total
  edit-counted count is =
      let w : ℕ → ℕ = at (edited (held b) e) in
      let sum : ℕ = sum_from w 0 (length (edited (held b) e)) in
      let short : Bool = ltb (length b) (file_len n count) in
      let len : length (file_of (edited (held b) e)) ≡ file_len n count =
      ap length file-edited ∙ length-file n w ∙ ap (file_len n) (sym is) in
      edit-checked b n k bytes p.checked e
      ∙ rw (lt-leb (length (held b)) e.slot slot-in, len)
      (ap (λ (c : Counts). refuse_if short (refuse BufferTooSmall 0 0) (Ok (summarize c sum)))
      (ap₂ counts_of slots (ap (λ (m : ℕ). overflow_count m w) slots ∙ sym is))
      ∙ sym (refuse_if-sum short (counts_of n count) sum))

  -- ---- the slot's old distance

  pub old-inline : get_or b (40 + e.slot) 0 < 255 → at (held b) e.slot < 255
  old-inline h =
      let P = file_parts b n k in
      omega (arith, holds.each e.slot p.inside, value_of-inline P p.checked.parts e.slot h)

  pub old-overflow : get_or b (40 + e.slot) 0 ≡ 255 → 255 ≤ at (held b) e.slot
  old-overflow h =
      let P = file_parts b n k in
      let q = value_of-entry P p.checked.parts e.slot p.inside h in
      omega (
        arith,
        holds.each e.slot p.inside,
        q.1,
        (entry-good P p.checked.parts (entries_below P e.slot) q.0).overflows,
      )

  -- `sum` is that of the list before the edit
  pub sum-after : (sum old : ℕ) → sum ≡ total (held b) → old ≡ value_of (file_parts b n k) e.slot
      → (old ≤ sum) × (sum < 2 ^ 52) × (sum - old + e.distance ≡ total (edited (held b) e))
  sum-after sum old sum_is old_is =
      let here : old ≡ at (held b) e.slot = old_is ∙ sym (holds.each e.slot p.inside) in
      let low = at-total-le (held b) e.slot slot-in in (
        omega arith,
        omega (arith, total-front b n k bytes p.checked, sum_lt b n k p.checked bytes),
        omega (arith, sum-edited (held b) e slot-in),
      )

  -- where its entry stands
  pub below-count : entries_below (file_parts b n k) e.slot ≡ overflow_count e.slot (at (held b))
  below-count =
      let P = file_parts b n k in
      let q = p.inside in
      entries_below-count P p.checked.parts (λ i. bytes (40 + i)) e.slot (omega arith)
      ∙ overflow_count-cong e.slot (value_of P) (at (held b)) (λ i h. sym (holds.each i (omega arith)))

  -- ---- stays inline, or in overflow

  -- as many entries as before, each with its number
  stays : leb 255 (at (held b) e.slot) ≡ leb 255 e.distance
      → (edit_outcome b e ≡ Ok (summarize (counts_of n k) (total (edited (held b) e)))) × (edit_moved b e ≡ 0)
  stays same =
      let count : k ≡ overflow_count n (at (edited (held b) e)) =
      sym
      (count-stays n (at (held b)) (at (edited (held b) e)) e.slot p.inside (edited-other (held b) e)
      (same ∙ ap (leb 255) (sym new-at))
      ∙ holds.count) in
      let is = edit-counted k count
      ∙ ap (λ (o : Outcome Counts). with_sum o (total (edited (held b) e))) (begin-fits n k b p.checked.fits).0 in
      (is, moved-done b e _ is ∙ moved-stays (held b) e same)

  -- the same of the buffer taken apart
  apart-done : (s : Summary) → edit_outcome b e ≡ Ok s
      → edit_outcome (file_of (held b) ++ drop (file_len n k) b) e ≡ Ok s
  apart-done s is = ap (λ (l : List ℕ). edit_outcome l e) (sym holds.apart) ∙ is

  pub stays-inline : get_or b (40 + e.slot) 0 < 255 → e.distance < 255
      → (edit_outcome b e ≡ Ok (summarize (counts_of n k) (total (edited (held b) e))))
      × (edit_moved b e ≡ 0)
      × (edit_buffer b e ≡ set b (40 + e.slot) e.distance)
  stays-inline old new =
      let was = old-inline old in
      let is = stays (lt-leb 255 (at (held b) e.slot) was ∙ sym (lt-leb 255 e.distance new)) in (
        is.0,
        is.1,
        ap (λ (l : List ℕ). edit_buffer l e) holds.apart
            ∙ edit-stays-inline (held b) (drop (file_len n k) b) holds.limits e _ (apart-done _ is.0) was new
            ∙ ap (λ (l : List ℕ). set l (40 + e.slot) e.distance) (sym holds.apart),
      )

  pub stays-overflow : get_or b (40 + e.slot) 0 ≡ 255 → 255 ≤ e.distance
      → (j : ℕ) → j ≡ entries_below (file_parts b n k) e.slot
      → (edit_outcome b e ≡ Ok (summarize (counts_of n k) (total (edited (held b) e))))
      × (edit_moved b e ≡ 0)
      × (edit_buffer b e ≡ sets b (40 + n + 12 * j + 8) (le 4 e.distance))
  stays-overflow old new j at_j =
      let was = old-overflow old in
      let is = stays (le-leb 255 (at (held b) e.slot) was ∙ sym (le-leb 255 e.distance new)) in
      let place : entry_place (held b) e.slot + 8 ≡ 40 + n + 12 * j + 8 =
      omega (arith, holds.slots, at_j, below-count) in (
        is.0,
        is.1,
        ap (λ (l : List ℕ). edit_buffer l e) holds.apart
            ∙ edit-stays-overflow (held b) (drop (file_len n k) b) holds.limits e _ (apart-done _ is.0) was new
            ∙ ap₂ (λ (l : List ℕ) (i : ℕ). sets l i (le 4 e.distance)) (sym holds.apart) place,
      )

  -- the entry of a slot in overflow
  pub entry-inside : get_or b (40 + e.slot) 0 ≡ 255 → entries_below (file_parts b n k) e.slot < k
  entry-inside old = (value_of-entry (file_parts b n k) p.checked.parts e.slot p.inside old).0
