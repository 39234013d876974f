-- A run of edits in one call: edit by edit, and as a whole.
--   Left b₀ out₀ es b out to rest
--                        what is left of a run of es, begun with buffer b₀ and answers out₀: the edits `rest`, from b
--                        and out on, the next answer going to place `to`
--   run_cells b es        the answers of a run as numbers
--   put_mid-sets, three    how one answer is written: a part of a list, and three numbers
--   left-start, -more, _end    before, between and after its edits
--   edit_at, edits_from    the edits of a list of slots and a list of distances;  edits-more, -end  those from i on
--   is_map                 the file at the front is checked
--   made-run               what a run answers and leaves that is made
-- Axioms: none.
use Rattle.std.proofs.Common.{Ok, Err}
use mathlib.Core.Path.{◌≡◌, refl, sym, ap, ◌∙◌}
use Prim.Native.Nat.{ℕ, ◌+◌, ◌-◌, ◌*◌, ◌≤◌, ◌<◌}
use native.Mathlib.Nat.{sub-zero}
use native.Mathlib.Omega.{arith}
use mathlib.Core.List.{List, [], ◌∷◌, append_assoc}
use lib.ListN.{length, length-append, get_or, take, drop}
use lib.Seq.{sets, sets-eq, drop-drop}
use borrow.Rule.Slice.PartMut.{put_mid}
use borrow.Author.Tests.{le-ltb}
use Rattle.pciv_bytes.specs.Ranges.{table}
use Rattle.pciv_bytes.specs.LittleEndian.{Bytes}
use Rattle.pciv_bytes.proofs.RangesLaws.{length-table, get_or-table, table-rest, table_done}
use Rattle.pciv_bytes.proofs.WriteLaws.{sets-append, sets-front}
use Rattle.pciv_format.specs.Layout.{max_distance, at}
use Rattle.pciv_format.specs.Refusals.{Outcome}
use Rattle.pciv_format.specs.Check.{counts_buffer}
use Rattle.pciv_format.specs.Read.{check_buffer}
use Rattle.pciv_format.proofs.SummaryLaws.{counts_in, buffer-refuse-alike}
use Rattle.pciv_format.specs.Edit.{Edit, edit_outcome, edit_moved, edit_buffer, edit_run, edit_outcomes, edit_moves}
use Rattle.pciv_format.specs.Edit.{answer_len, answer_cells, all_cells}
use Rattle.pciv_format.specs.Edit.{edits_of, edit_list_outcome, edit_list_buffer, edit_list_answers}
use Rattle.pciv_format.specs.declared.Counts.{Counts}
use Rattle.pciv_format.specs.declared.Summary.{Summary}
use Rattle.pciv_format.proofs.PartsLaws.{eqb-not}
use Rattle.pciv_format.proofs.CheckLaws.{done-buffer}
use Rattle.pciv_format.proofs.RunLaws.{Distances}
use Rattle.pciv_format.proofs.EditCaseLaws.{checked-run, checked-moves}

-- ---- one answer

-- a list whose part holds vs now
pub put_mid-sets : (a k : ℕ) (d vs : List ℕ) → length vs ≡ k → a + k ≤ length d → put_mid a k d vs ≡ sets d a vs
put_mid-sets a k d vs same space =
    let fits : a + length vs ≤ length d = rw same space in
    sym (sets-eq vs d a fits ∙ append_assoc (take a d) vs (drop (a + length vs) d) ∙ rw (drop-drop k a d, same))

-- a list of three numbers
pub three : (xs : List ℕ) → length xs ≡ 3 → get_or xs 0 0 ∷ get_or xs 1 0 ∷ get_or xs 2 0 ∷ [] ≡ xs
three [] e = absurd (omega arith)
three (x ∷ []) e = absurd (omega arith)
three (x ∷ y ∷ []) e = absurd (omega arith)
three (x ∷ y ∷ z ∷ []) e = refl
three (x ∷ y ∷ z ∷ w ∷ xs) e = absurd (omega arith)

-- ---- what is left of a run

-- the answers of a run as numbers
abbrev pub run_cells : List ℕ → List Edit → List ℕ
run_cells b es = all_cells (edit_outcomes b es) (edit_moves b es)

-- all edits es from the start do what the rest does from here
pub record Left (b₀ out₀ : List ℕ) (es : List Edit) (b out : List ℕ) (to : ℕ) (rest : List Edit) : Type 0 where
  pub buffer : edit_run b₀ es ≡ edit_run b rest
  pub answers : sets out₀ 0 (run_cells b₀ es) ≡ sets out to (run_cells b rest)

length-cells : (o : Outcome Summary) (moved : ℕ) → length (answer_cells o moved) ≡ answer_len
unfolding answer_cells
length-cells (Ok s) moved = refl
length-cells (Err r) moved = refl

module _ (b₀ out₀ : List ℕ) (es : List Edit) (b out : List ℕ) where
  pub left-more : (to : ℕ) (rest : List Edit) (e : Edit) (next : List Edit) → rest ≡ e ∷ next
      → Left b₀ out₀ es b out to rest
      → (b' out' : List ℕ) → b' ≡ edit_buffer b e
      → out' ≡ sets out to (answer_cells (edit_outcome b e) (edit_moved b e))
      → (to' : ℕ) → to' ≡ to + answer_len → Left b₀ out₀ es b' out' to' next
  unfolding edit_run edit_outcomes edit_moves all_cells
  left-more to rest e next is l b' out' eb eo to' et =
      let cells : List ℕ = answer_cells (edit_outcome b e) (edit_moved b e) in
      let more : List ℕ = run_cells (edit_buffer b e) next in
      rw (eb, eo, et)
      (record {
        buffer = l.buffer ∙ ap (edit_run b) is;
        answers =
            l.answers
            ∙ ap (λ (r : List Edit). sets out to (run_cells b r)) is
            ∙ sets-append cells more out to
            ∙ ap (λ (m : ℕ). sets (sets out to cells) (to + m) more) (length-cells (edit_outcome b e) (edit_moved b e));
      })

  pub left_end : (to : ℕ) (rest : List Edit) → rest ≡ [] → Left b₀ out₀ es b out to rest
      → (b ≡ edit_run b₀ es) × (out ≡ sets out₀ 0 (run_cells b₀ es))
  unfolding edit_run edit_outcomes edit_moves all_cells
  left_end to rest is l = (
    sym (l.buffer ∙ ap (edit_run b) is),
    sym (l.answers ∙ ap (λ (r : List Edit). sets out to (run_cells b r)) is),
  )

-- ---- the edits of two lists

module _ (slots distances : List ℕ) where
  abbrev pub edit_at : ℕ → Edit
  edit_at j = record { slot = at slots j; distance = at distances j }

  -- the edits from i on
  abbrev pub edits_from : ℕ → List Edit
  edits_from i = table edit_at i (length slots - i)

  pub edits-more : (i : ℕ) → i < length slots → edits_from i ≡ edit_at i ∷ edits_from (i + 1)
  edits-more i h = table-rest edit_at (length slots) i h

  pub edits-end : (i : ℕ) → length slots ≤ i → edits_from i ≡ []
  edits-end i h = table_done edit_at (length slots) i h

  length-edits : length (edits_of slots distances) ≡ length slots
  unfolding edits_of
  length-edits = length-table edit_at 0 (length slots)

  edits-distances : ((i : ℕ) → at distances i ≤ max_distance) → Distances (edits_of slots distances)
  unfolding edits_of
  edits-distances small i h =
      let h' : i < length slots = (rw length-table at h) in
      rw (get_or-table edit_at (record { slot = 0; distance = 0 }) 0 (length slots) i h') (small (0 + i))

  pub left-start : (b out : List ℕ) → Left b out (edits_of slots distances) b out 0 (edits_from 0)
  unfolding edits_of
  left-start b out = rw sub-zero (record { buffer = refl; answers = refl })

-- ---- a run in one call

-- the file at the front is a map
pub is_map : (b : List ℕ) (s : Summary) → Ok s ≡ check_buffer 1 b → counts_buffer 1 b ≡ Ok (counts_in s)
is_map b s is = (((buffer-refuse-alike 1 b).1 s).0 (sym is)).0

length-run_cells : (b : List ℕ) (es : List Edit) → length (run_cells b es) ≡ answer_len * length es
unfolding all_cells edit_outcomes edit_moves
length-run_cells b [] = refl
length-run_cells b (e ∷ es) =
    omega (
      arith,
      length-append (answer_cells (edit_outcome b e) (edit_moved b e)) (run_cells (edit_buffer b e) es),
      length-cells (edit_outcome b e) (edit_moved b e),
      length-run_cells (edit_buffer b e) es,
    )

module _ (b slots distances : List ℕ) where
  list_done : (s : Counts) → counts_buffer 1 b ≡ Ok s → (capacity : ℕ) → length slots ≡ length distances
      → answer_len * length slots ≤ capacity → edit_list_outcome b slots distances capacity ≡ Ok (length slots)
  unfolding edit_list_outcome
  list_done s is capacity same h =
      rw (is, eqb-not (length slots) (length distances) same, le-ltb capacity (answer_len * length slots) h)

  module _ (bytes : Bytes b) (small : (i : ℕ) → at distances i ≤ max_distance)
      (s : Counts) (is : counts_buffer 1 b ≡ Ok s)
      (same : length slots ≡ length distances) (out : List ℕ) (fits : answer_len * length slots ≤ length out) where
    -- the run is made: the editor's run is the plain editor's
    pub made-run : (b' out' : List ℕ) → b' ≡ edit_run b (edits_of slots distances)
        → out' ≡ sets out 0 (run_cells b (edits_of slots distances))
        → ((Ok (length slots)) ≡ (edit_list_outcome b slots distances (length out)))
        × ((b' ≡ edit_list_buffer b slots distances (length out)) × (out' ≡ edit_list_answers b slots distances out))
    unfolding edit_list_buffer edit_list_answers
    made-run b' out' buffer answers =
        let es : List Edit = edits_of slots distances in
        let map = done-buffer 1 b s is in
        let limited = edits-distances slots distances small in
        let r = checked-run b s.n s.k bytes map es limited in
        let moves = checked-moves b s.n s.k bytes map es limited in
        let cells : length (run_cells b es) ≤ length out =
        omega (arith, length-run_cells b es, length-edits slots distances) in
        rw (list_done s is (length out) same fits, ← r.0, ← moves)
        (refl, (buffer ∙ r.1, answers ∙ sets-front (run_cells b es) out cells))
