-- A run of edits (docs/PROMISES.md, "A run of edits"): for every list of edits, of any length, on a buffer with a
-- sound file at its front, the editor's answers are the plain editor's, in order, and the buffer holds the plain
-- editor's list as a fresh file, zeros up to the longest file of the run, and then what stood there at the start;
-- and of each edit, on the plain editor's list and the buffer that it finds, all that docs/FORMAT.md, "The editor",
-- says of the bytes just after it (a field of `StepLimits` for each sentence).
--   Reached b₀ z           a state z that the plain editor may reach on a buffer b₀
--   length-there           what the buffer holds in such a state is as long as b₀
--   edit-answer, -buffer   one edit there: the editor's answer and buffer are the plain editor's
--   next-reached           the state after it is reached too
--   Distances es           every distance of the edits es is one
--   edit-run               the theorem
--   moved-run              in such a run the editor's numbers of entries moved are the plain editor's too
-- Axioms: none.
use Rattle.std.proofs.Common.{Ok, Err}
use Rattle.pciv_format.specs.declared.RefusalKind.TheVariants.{SlotOutOfRange, BufferTooSmall}
use mathlib.Core.Path.{◌≡◌, refl, sym, ap, ap₂, ◌∙◌}
use Prim.Native.Nat.{ℕ, suc, ◌+◌, ◌-◌, ◌≤◌, ◌<◌, max}
use native.Mathlib.Nat.{le_refl, sub_self}
use native.Mathlib.Omega.{arith}
use native.Mathlib.Decide.{dec_le}
use mathlib.Core.Bool.{Bool, true, false}
use mathlib.Core.List.{List, [], ◌∷◌, ◌++◌, append_assoc}
use lib.ListN.{length, get_or, drop, replicate, length-append, length-drop, length-replicate, replicate-append-replicate}
use lib.Seq.{drop_at, drop-drop}
use lib.Dec.{ltb, leb}
use borrow.Author.Tests.{ltb-false}
use Rattle.pciv_format.specs.Layout.{max_distance, file_of, summary_of, Limits}
use Rattle.pciv_format.specs.Refusals.{Outcome, refuse, refuse_if}
use Rattle.pciv_format.specs.Read.{list_of}
use Rattle.pciv_format.specs.Edit.{Edit, edited, plain_outcome, edited_file, edit_outcome, replaced}
use Rattle.pciv_format.specs.Edit.{if_accepted, edit_buffer, plain_moved, edit_moved, State, plain_start}
use Rattle.pciv_format.specs.Edit.{plain_step, plain_run, plain_outcomes, plain_moves, buffer_of, edit_run}
use Rattle.pciv_format.specs.Edit.{edit_outcomes, edit_moves, StepLimits, RunLimits}
use Rattle.pciv_format.specs.declared.Summary.{Summary}
use Rattle.pciv_format.proofs.FrontLaws.{front-list}
use Rattle.pciv_format.proofs.EditLaws.{edited-limits}
use Rattle.pciv_format.proofs.LimitLaws.{edit-plain, edit-step}

-- ---- what follows the file: zeros, then what stood there at the start

zeros-append : (a c : ℕ) (t : List ℕ) → replicate a 0 ++ (replicate c 0 ++ t) ≡ replicate (a + c) 0 ++ t
zeros-append a c t =
    sym (append_assoc (replicate a 0) (replicate c 0) t)
    ∙ ap (λ (l : List ℕ). l ++ t) (replicate-append-replicate a c 0)

drop-zeros : (c a p : ℕ) (b : List ℕ)
    → drop c (replicate a 0 ++ drop p b) ≡ replicate (a - c) 0 ++ drop (p + (c - a)) b
drop-zeros c a p b =
    elim (dec_le c a) [
      | yes d ↦ (let split : a ≡ c + (a - c) = omega arith in
          let none : p + (c - a) ≡ p = omega arith in
          rw none
          (ap (λ (m : ℕ). drop c (replicate m 0 ++ drop p b)) split
          ∙ ap (drop c) (sym (zeros-append c (a - c) (drop p b)))
          ∙ drop_at (replicate c 0) (replicate (a - c) 0 ++ drop p b) c (length-replicate c 0)))
      | no d ↦ (let split : c ≡ a + (c - a) = omega arith in
          let none : a - c ≡ 0 = omega arith in
          rw none
          (ap (λ (m : ℕ). drop m (replicate a 0 ++ drop p b)) split
          ∙ sym (drop-drop (c - a) a (replicate a 0 ++ drop p b))
          ∙ ap (drop (c - a)) (drop_at (replicate a 0) (drop p b) a (length-replicate a 0))
          ∙ drop-drop (c - a) p b))
    ]

zeros-behind : (Lx Ly filled : ℕ) → Lx ≤ filled → Lx - Ly + (filled - Lx - (Ly - Lx)) ≡ max filled Ly - Ly
zeros-behind Lx Ly filled low =
    elim (dec_le Ly Lx) [
      | yes d ↦ (let none : Ly - Lx ≡ 0 = omega arith in rw none (omega arith))
      | no d ↦ (let none : Lx - Ly ≡ 0 = omega arith in rw none (omega arith))
    ]

-- after `filled` bytes were in use, a file of Ly bytes takes the place of a file f of Lx bytes
behind : (f b₀ : List ℕ) (Lx Ly filled : ℕ) → length f ≡ Lx → Lx ≤ filled
    → replicate (Lx - Ly) 0 ++ drop (max Lx Ly) (f ++ (replicate (filled - Lx) 0 ++ drop filled b₀))
    ≡ replicate (max filled Ly - Ly) 0 ++ drop (max filled Ly) b₀
behind f b₀ Lx Ly filled long low =
    let c : ℕ = Ly - Lx in
    let R : List ℕ = replicate (filled - Lx) 0 ++ drop filled b₀ in
    let split : max Lx Ly ≡ Lx + c = omega arith in
    let zeros : ℕ = filled - Lx - c in
    let from : ℕ = filled + (c - (filled - Lx)) in
    let past : drop (max Lx Ly) (f ++ R) ≡ replicate zeros 0 ++ drop from b₀ =
    ap (λ (m : ℕ). drop m (f ++ R)) split
    ∙ sym (drop-drop c Lx (f ++ R))
    ∙ ap (drop c) (drop_at f R Lx long)
    ∙ drop-zeros c (filled - Lx) filled b₀ in
    let place : from ≡ max filled Ly = omega arith in
    rw (past, zeros-append (Lx - Ly) zeros (drop from b₀), zeros-behind Lx Ly filled low, place)

-- ---- one edit

-- a state of the plain editor on a buffer b₀
pub record Reached (b₀ : List ℕ) (z : State) : Type 0 where
  pub limits : Limits z.list
  pub low : length (file_of z.list) ≤ z.filled
  pub high : z.filled ≤ length b₀

-- the state after an accepted edit
abbrev after : State → Edit → State
after z e = record { list = edited z.list e; filled = max z.filled (length (file_of (edited z.list e))) }

module _ (b₀ : List ℕ) (z : State) (at : Reached b₀ z) where
  list-there : list_of (edited_file (buffer_of z b₀)) ≡ z.list
  unfolding buffer_of
  list-there = front-list z.list _ at.limits

  pub length-there : length (buffer_of z b₀) ≡ length b₀
  unfolding buffer_of
  length-there = simp (length-append, length-replicate, length-drop) (omega (arith, at.low, at.high))

  -- the editor answers as the plain editor
  pub edit-answer : (e : Edit) → edit_outcome (buffer_of z b₀) e ≡ plain_outcome z.list (length b₀) e
  unfolding buffer_of
  edit-answer e = edit-plain z.list _ at.limits e ∙ ap (λ (R : ℕ). plain_outcome z.list R e) length-there

  -- and moves as many entries
  moved-there : (e : Edit) → edit_moved (buffer_of z b₀) e ≡ plain_moved z.list (length b₀) e
  unfolding edit_moved plain_moved
  moved-there e = rw (edit-answer e, list-there)

  replaced-is : (y : List ℕ) → replaced (buffer_of z b₀) z.list y
      ≡ buffer_of (record { list = y; filled = max z.filled (length (file_of y)) }) b₀
  unfolding replaced buffer_of
  replaced-is y =
      ap (λ (l : List ℕ). file_of y ++ l)
      (behind (file_of z.list) b₀ (length (file_of z.list)) (length (file_of y)) z.filled refl at.low)

  -- and leaves the plain editor's buffer
  pub edit-buffer : (e : Edit) → edit_buffer (buffer_of z b₀) e ≡ buffer_of (plain_step (length b₀) z e) b₀
  unfolding edit_buffer plain_step
  edit-buffer e = rw (edit-answer e, list-there) (go (plain_outcome z.list (length b₀) e))
    where
      go : (o : Outcome Summary)
          → if_accepted o (replaced (buffer_of z b₀) z.list (edited z.list e)) (buffer_of z b₀)
          ≡ buffer_of (if_accepted o (after z e) z) b₀
      go (Ok s) = replaced-is (edited z.list e)
      go (Err r) = refl

  pub next-reached : (e : Edit) → e.distance ≤ max_distance → Reached b₀ (plain_step (length b₀) z e)
  unfolding plain_step plain_outcome
  next-reached e small =
      go (leb (length z.list) e.slot) (ltb (length b₀) (length (file_of (edited z.list e)))) refl
    where
      go : (p q : Bool) → ltb (length b₀) (length (file_of (edited z.list e))) ≡ q
          → (let o = refuse_if p (refuse SlotOutOfRange 0 0) (refuse_if q (refuse BufferTooSmall 0 0) (Ok (summary_of (edited z.list e)))) in
          Reached b₀ (if_accepted o (after z e) z))
      go true q h = at
      go false true h = at
      go false false h =
          let g : length (file_of (edited z.list e)) ≤ length b₀ = ltb-false _ _ h in
          record {
            limits = edited-limits z.list e at.limits small;
            low = omega arith;
            high = omega (arith, at.high);
          }

-- ---- its limits

module _ (b₀ : List ℕ) (z : State) (at : Reached b₀ z) where
  edit-limited : (e : Edit) → StepLimits (length b₀) z.list (buffer_of z b₀) e
  unfolding buffer_of
  edit-limited e =
      let t : List ℕ = replicate (z.filled - length (file_of z.list)) 0 ++ drop z.filled b₀ in
      rw (length-there b₀ z at) at (edit-step z.list t at.limits e)

-- ---- the run

-- every distance of the edits is one
abbrev pub Distances : List Edit → Type 0
Distances es = (i : ℕ) → i < length es → (get_or es i (record { slot = 0; distance = 0 })).distance ≤ max_distance

module _ (b₀ : List ℕ) where
  run-from : (es : List Edit) (z : State) → Reached b₀ z → Distances es
      → (edit_outcomes (buffer_of z b₀) es ≡ plain_outcomes (length b₀) z es)
      × (edit_run (buffer_of z b₀) es ≡ buffer_of (plain_run (length b₀) z es) b₀)
      × RunLimits (length b₀) z (buffer_of z b₀) es
      × (edit_moves (buffer_of z b₀) es ≡ plain_moves (length b₀) z es)
  unfolding edit_run plain_run edit_outcomes plain_outcomes edit_moves plain_moves
  run-from [] z at small = (refl, refl, tt, refl)
  run-from (e ∷ es) z at small =
      let z' = plain_step (length b₀) z e in
      let r = run-from es z' (next-reached b₀ z at e (small 0 (omega arith))) (λ i h. small (suc i) (omega arith)) in
      let q = edit-buffer b₀ z at e in (
        ap₂ (λ (o : Outcome Summary) (l : List (Outcome Summary)). o ∷ l) (edit-answer b₀ z at e)
            (ap (λ (b : List ℕ). edit_outcomes b es) q ∙ r.0),
        ap (λ (b : List ℕ). edit_run b es) q ∙ r.1,
        (edit-limited b₀ z at e, rw q r.2),
        ap₂ (λ (m : ℕ) (l : List ℕ). m ∷ l) (moved-there b₀ z at e)
            (ap (λ (b : List ℕ). edit_moves b es) q ∙ r.3),
      )

module _ (x t : List ℕ) where
  start-there : buffer_of (plain_start x) (file_of x ++ t) ≡ file_of x ++ t
  unfolding buffer_of plain_start
  start-there = rw (sub_self, drop_at (file_of x) t (length (file_of x)) refl)

  start-reached : Limits x → Reached (file_of x ++ t) (plain_start x)
  unfolding plain_start
  start-reached l = record { limits = l; low = le_refl _; high = simp length-append (omega arith) }

-- a buffer with x's file at its front and any bytes t behind it
pub edit-run : (x t : List ℕ) (es : List Edit) → Limits x → Distances es
    → (let b = file_of x ++ t in
    (edit_outcomes b es ≡ plain_outcomes (length b) (plain_start x) es)
    × (edit_run b es ≡ buffer_of (plain_run (length b) (plain_start x) es) b)
    × RunLimits (length b) (plain_start x) b es)
edit-run x t es l small =
    let b : List ℕ = file_of x ++ t in
    let start = start-there x t in
    let r = run-from b es (plain_start x) (start-reached x t l) small in (
      ap (λ (c : List ℕ). edit_outcomes c es) (sym start) ∙ r.0,
      ap (λ (c : List ℕ). edit_run c es) (sym start) ∙ r.1,
      rw start at r.2,
    )

pub moved-run : (x t : List ℕ) (es : List Edit) → Limits x → Distances es
    → (let b = file_of x ++ t in edit_moves b es ≡ plain_moves (length b) (plain_start x) es)
moved-run x t es l small =
    let b : List ℕ = file_of x ++ t in
    ap (λ (c : List ℕ). edit_moves c es) (sym (start-there x t))
    ∙ (run-from b es (plain_start x) (start-reached x t l) small).3
