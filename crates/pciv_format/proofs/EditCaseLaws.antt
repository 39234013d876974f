-- What the editor answers and leaves, case by case: the buffer is refused, or it is a checked map.
--   held b              the list that the file at the front of a buffer is read as
--   edit-refused        a refused buffer (a refused edit changes no byte: buffer-refused, LimitLaws.antt)
--   edit-checked        a checked map: the plain editor's answer
--   edit-outside        the slot is none of the map's
--   buffer-done         what an accepted edit leaves;  replaced-sets  the same, as writes
--   edit-adjusts        its sum is that of the check before, adjusted;  edit-check  the check afterwards answers the same
--   accepted-checked, accepted-sum    it leaves a checked map, with the counts and the sum of its answer
--   checked-run, checked-moves    the theorems on runs (RunLaws.antt), of the file at the front of a checked map
-- Axioms: none.
use Rattle.std.proofs.Common.{Ok, Err}
use Rattle.pciv_format.specs.declared.RefusalKind.TheVariants.{SlotOutOfRange}
use mathlib.Core.Path.{◌≡◌, sym, ap, ◌∙◌}
use Prim.Native.Nat.{ℕ, ◌+◌, ◌-◌, ◌≤◌, ◌<◌, max}
use native.Mathlib.Nat.{add-zero}
use native.Mathlib.Omega.{arith}
use mathlib.Core.List.{List, ◌++◌}
use lib.ListN.{length, drop, replicate, length-drop, length-replicate}
use lib.Seq.{sets, drop-drop}
use lib.Dec.{ltb, leb}
use borrow.Author.Tests.{le-ltb, le-leb, leb-false}
use Rattle.pciv_bytes.specs.LittleEndian.{Bytes}
use Rattle.pciv_bytes.proofs.WriteLaws.{sets-front, sets_behind}
use Rattle.pciv_format.specs.Layout.{max_distance, file_len, overflow_count, counts_of, summary, at}
use Rattle.pciv_format.specs.Layout.{file_of, summary_of, Limits}
use Rattle.pciv_format.specs.Refusals.{refuse}
use Rattle.pciv_format.specs.Check.{counts_buffer, CheckedMap}
use Rattle.pciv_format.specs.Read.{list_of, total, check_buffer}
use Rattle.pciv_format.specs.Edit.{Edit, edited, plain_outcome, edited_file, edit_outcome, replaced}
use Rattle.pciv_format.specs.Edit.{edit_buffer, plain_run, plain_outcomes, plain_moves, buffer_of, edit_run}
use Rattle.pciv_format.specs.Edit.{edit_outcomes, edit_moves, RunLimits, start_of}
use Rattle.pciv_format.specs.declared.Summary.{Summary}
use Rattle.pciv_format.specs.declared.Refusal.{Refusal}
use Rattle.pciv_format.proofs.RefusalsLaws.{refuse_if-done}
use Rattle.pciv_format.proofs.CheckLaws.{check_with-done}
use Rattle.pciv_format.proofs.FrontLaws.{Holds, checked-front, front-map, front-list}
use Rattle.pciv_format.proofs.EditLaws.{length-edited, edited-limits}
use Rattle.pciv_format.proofs.SummaryLaws.{summary-sum, sum-edited, front-check, buffer_held}
use Rattle.pciv_format.proofs.RunLaws.{Distances, edit-run, moved-run}

abbrev pub held : List ℕ → List ℕ
held b = list_of (edited_file b)

-- ---- any buffer

module _ (b : List ℕ) (e : Edit) where
  pub edit-refused : (r : Refusal) → counts_buffer 1 b ≡ Err r → edit_outcome b e ≡ Err r
  unfolding edit_outcome
  edit-refused r is = rw is

  pub buffer-done : (s : Summary) → edit_outcome b e ≡ Ok s
      → edit_buffer b e ≡ replaced b (held b) (edited (held b) e)
  unfolding edit_buffer
  buffer-done s is = rw is

-- the file of y written, and zeros behind it up to the end of x's file
pub replaced-sets : (b x y : List ℕ) → length (file_of x) ≤ length b → length (file_of y) ≤ length b
    → sets (file_of y ++ drop (length (file_of y)) b) (length (file_of y))
    (replicate (length (file_of x) - length (file_of y)) 0)
    ≡ replaced b x y
unfolding replaced
replaced-sets b x y hx hy =
    let F : List ℕ = file_of y in
    let R : List ℕ = drop (length F) b in
    let zs : List ℕ = replicate (length (file_of x) - length F) 0 in
    let count : length zs ≡ length (file_of x) - length F = length-replicate (length (file_of x) - length F) 0 in
    let past : length F + length zs ≡ max (length (file_of x)) (length F) = omega arith in
    ap (λ (i : ℕ). sets (F ++ R) i zs) (sym (add-zero (length F)))
    ∙ sets_behind F R 0 zs
    ∙ ap (λ (l : List ℕ). F ++ l)
    (sets-front zs R (simp length-drop (omega arith))
    ∙ ap (λ (l : List ℕ). zs ++ l) (drop-drop (length zs) (length F) b ∙ ap (λ (i : ℕ). drop i b) past))

-- ---- a checked map

module _ (b : List ℕ) (n k : ℕ) (bytes : Bytes b) (c : CheckedMap b n k) where
  there : Holds b n k (held b)
  there = checked-front b n k bytes c

  pub edit-checked : (e : Edit) → edit_outcome b e ≡ plain_outcome (held b) (length b) e
  unfolding edit_outcome
  edit-checked e = rw (check_with-done ltb 1 b n k c (le-ltb (length b) (file_len n k) c.fits))

  pub edit-outside : (e : Edit) → n ≤ e.slot → edit_outcome b e ≡ refuse SlotOutOfRange 0 0
  unfolding plain_outcome
  edit-outside e h = edit-checked e ∙ rw (le-leb (length (held b)) e.slot (omega (arith, there.slots)))

  -- ---- an accepted edit

  module _ (e : Edit) (small : e.distance ≤ max_distance) (s : Summary) (is : edit_outcome b e ≡ Ok s) where
    new-summary : s ≡ summary_of (edited (held b) e)
    unfolding plain_outcome
    new-summary =
        let y : List ℕ = edited (held b) e in
        let g₁ = refuse_if-done (leb (length (held b)) e.slot) _ _ s (sym (edit-checked e) ∙ is) in
        let g₂ = refuse_if-done (ltb (length b) (length (file_of y))) _ _ s g₁.1 in
        let q : Ok (summary_of y) ≡ Ok s = g₂.1 in
        cc

    pub accepted-checked : CheckedMap (edit_buffer b e) n s.k
    unfolding edit_buffer replaced summary counts_of
    accepted-checked =
        let y : List ℕ = edited (held b) e in
        let l : Limits y = edited-limits (held b) e there.limits small in
        let slots : length y ≡ n = length-edited (held b) e ∙ there.slots in
        let k' : ℕ = overflow_count (length y) (at y) in
        let count : s.k ≡ k' = ap (λ (z : Summary). z.k) new-summary in
        rw (is, count, ← slots) (front-map (length y) (at y) l.count l.each _)

    slot-inside : e.slot < length (held b)
    unfolding plain_outcome
    slot-inside =
        leb-false _ _ (refuse_if-done (leb (length (held b)) e.slot) _ _ s (sym (edit-checked e) ∙ is)).0

    -- the sum is adjusted: that of the check of the buffer, less the old distance, plus the new one
    pub edit-adjusts : (mp : ℕ) (t : Summary) → check_buffer mp b ≡ Ok t
        → s.sum + at (held b) e.slot ≡ t.sum + e.distance
    edit-adjusts mp t checked =
        let old = (buffer_held mp b t bytes checked).1 in
        let new = ap (λ (z : Summary). z.sum) new-summary ∙ summary-sum (edited (held b) e) in
        omega (arith, sum-edited (held b) e slot-inside)

    -- the check of the buffer afterwards answers what the edit did
    pub edit-check : (mp : ℕ) → check_buffer mp (edit_buffer b e) ≡ Ok s
    unfolding edit_buffer replaced
    edit-check mp =
        let y : List ℕ = edited (held b) e in
        rw is (front-check y _ (edited-limits (held b) e there.limits small) mp ∙ ap Ok (sym new-summary))

    pub accepted-sum : s.sum ≡ total (held (edit_buffer b e))
    unfolding edit_buffer replaced
    accepted-sum =
        let y : List ℕ = edited (held b) e in
        let l : Limits y = edited-limits (held b) e there.limits small in
        rw (is, front-list y _ l) (ap (λ (z : Summary). z.sum) new-summary ∙ summary-sum y)

  -- ---- a run of edits

  pub checked-run : (es : List Edit) → Distances es
      → (edit_outcomes b es ≡ plain_outcomes (length b) (start_of b) es)
      × (edit_run b es ≡ buffer_of (plain_run (length b) (start_of b) es) b)
      × RunLimits (length b) (start_of b) b es
  checked-run es small =
      rw (← there.apart) at (edit-run (held b) (drop (file_len n k) b) es there.limits small)

  pub checked-moves : (es : List Edit) → Distances es → edit_moves b es ≡ plain_moves (length b) (start_of b) es
  checked-moves es small =
      rw (← there.apart) at (moved-run (held b) (drop (file_len n k) b) es there.limits small)
