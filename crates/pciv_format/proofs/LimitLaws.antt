-- What an edit does to the bytes of a buffer (docs/FORMAT.md, "The editor"), between just before and just after it.
--   buffer-refused        a refused edit changes no byte
--   edit-plain            an edit of a buffer with x's file at its front is answered as by the plain editor
-- Of such a buffer, and an edit that is accepted:
--   edit-stays-inline     where the slot stays inline, one byte is set
--   edit-stays-overflow   where it stays in overflow, four bytes are set
--   edit-same             an edit to the same distance changes nothing
--   edit-front, -freed, -past
--                         the file of the edited list, then zeros up to the old length, then what stood there
--   edit-length           the buffer is as long as before
--   edit-limits           a byte that differs is one that may change
-- Of one that is accepted or refused:
--   edit-step             all of these
-- Axioms: none.
use Rattle.std.proofs.Common.{Ok, Err}
use mathlib.Core.Path.{◌≡◌, refl, sym, ap, ◌∙◌}
use mathlib.Core.Logic.{◌⊎◌, inl, inr}
use Prim.Native.Nat.{ℕ, ◌+◌, ◌-◌, ◌*◌, ◌≤◌, ◌<◌, max}
use native.Mathlib.Omega.{arith}
use native.Mathlib.Decide.{dec_le, ℕ_discrete}
use mathlib.Core.Bool.{Bool, true, false}
use mathlib.Core.List.{List, ◌++◌, append_assoc}
use lib.ListN.{length, get_or, take, set, replicate, length-append, length-drop, length-replicate, length-set}
use lib.ListN.{get_or-replicate, get_or-append}
use lib.Seq.{take_at, drop_at, length-sets, get_or-append-add, get_or-set_other, set-get_or, set-append_left}
use lib.Seq.{sets, get_or-take, get_or-drop, length-take-le}
use lib.Dec.{ltb, leb}
use borrow.Author.Tests.{leb-true, leb-false, ltb-false}
use Rattle.pciv_bytes.specs.LittleEndian.{le}
use Rattle.pciv_bytes.proofs.LittleEndianLaws.{length-le}
use Rattle.pciv_bytes.proofs.WriteLaws.{get_or-sets-below, get_or-sets-above, sets-append-left}
use Rattle.pciv_format.specs.Layout.{magic, index_len, index_step, file_len, in_overflow, primary_byte}
use Rattle.pciv_format.specs.Layout.{primary, overflow_slots, overflow_count, overflow_part, index_part}
use Rattle.pciv_format.specs.Layout.{header, file, at, file_of, Limits}
use Rattle.pciv_format.specs.Refusals.{Outcome}
use Rattle.pciv_format.specs.Edit.{Edit, edited, plain_outcome, edit_outcome, edit_buffer, replaced}
use Rattle.pciv_format.specs.Edit.{entry_place, LimitsBy, MayChange, StepLimits}
use Rattle.pciv_format.specs.declared.Summary.{Summary}
use Rattle.pciv_format.specs.declared.Refusal.{Refusal}
use Rattle.pciv_format.proofs.LayoutLaws.{length-header, length-primary, length-overflow_part}
use Rattle.pciv_format.proofs.LayoutLaws.{length-file, file_len-is}
use Rattle.pciv_format.proofs.RefusalsLaws.{refuse_if-done}
use Rattle.pciv_format.proofs.FrontLaws.{front-counts, front-list}
use Rattle.pciv_format.proofs.EditLaws.{edited-at, edited-other, file-edited, primary-edited}
use Rattle.pciv_format.proofs.EditLaws.{file-inline, file-overflow, entries-in, entries-out}
use Rattle.pciv_format.proofs.EditLaws.{count-below, count-inside, below-count}

-- ---- bytes of three joined stretches

get_or-front : (xs ys : List ℕ) (i : ℕ) → i < length xs → get_or (xs ++ ys) i 0 ≡ get_or xs i 0
get_or-front xs ys i h = get_or-append xs ys 0 i h

get_or-behind : (xs ys : List ℕ) (i : ℕ) → length xs ≤ i → get_or (xs ++ ys) i 0 ≡ get_or ys (i - length xs) 0
get_or-behind xs ys i h =
    let e : i ≡ length xs + (i - length xs) = omega arith in
    ap (λ (j : ℕ). get_or (xs ++ ys) j 0) e ∙ get_or-append-add xs ys (i - length xs) 0

-- ---- two files that differ at slot s alone

module _ (n : ℕ) (v w : ℕ → ℕ) (s : ℕ) (inside : s < n) (same : (i : ℕ) → (i ≡ s → ⊥) → v i ≡ w i) where
  -- the first 16 bytes: magic and n
  header-start : (k k' i : ℕ) → i < 16 → get_or (header n k) i 0 ≡ get_or (header n k') i 0
  unfolding header
  header-start k k' i h =
      let a : List ℕ = le 8 magic in
      let counts : ℕ → List ℕ = λ c. le 8 c ++ (le 8 (index_len c) ++ le 8 (index_step c)) in
      let go : (c : ℕ) → get_or (a ++ (le 8 n ++ counts c)) i 0 ≡ get_or (a ++ le 8 n) i 0 =
      λ c.
      ap (λ (l : List ℕ). get_or l i 0) (sym (append_assoc a (le 8 n) (counts c)))
      ∙ get_or-front (a ++ le 8 n) _ i (simp length-append (omega (arith, length-le 8 magic, length-le 8 n))) in
      go k ∙ sym (go k')

  file-header : (u : ℕ → ℕ) (i : ℕ) → i < 40 → get_or (file n u) i 0 ≡ get_or (header n (overflow_count n u)) i 0
  unfolding file
  file-header u i h = get_or-front (header n (overflow_count n u)) _ i (rw length-header h)

  file-primary : (u : ℕ → ℕ) (i : ℕ) → i < n → get_or (file n u) (40 + i) 0 ≡ get_or (primary n u) i 0
  unfolding file
  file-primary u i h =
      let hd : List ℕ = header n (overflow_count n u) in
      let q : List ℕ = overflow_part n u ++ index_part (overflow_slots n u) in
      let L : length hd ≡ 40 = length-header n (overflow_count n u) in
      ap (λ (a : ℕ). get_or (hd ++ (primary n u ++ q)) (a + i) 0) (sym L)
      ∙ get_or-append-add hd (primary n u ++ q) i 0
      ∙ get_or-front (primary n u) q i (rw length-primary h)

  file-entries : (u : ℕ → ℕ) (i : ℕ) → i < 12 * overflow_count n u
      → get_or (file n u) (40 + n + i) 0 ≡ get_or (overflow_part n u) i 0
  unfolding file
  file-entries u i h =
      let hd : List ℕ = header n (overflow_count n u) in
      let q : List ℕ = overflow_part n u ++ index_part (overflow_slots n u) in
      let place : 40 + n + i ≡ length hd + (length (primary n u) + i) =
      omega (arith, length-header n (overflow_count n u), length-primary n u) in
      ap (λ (a : ℕ). get_or (hd ++ (primary n u ++ q)) a 0) place
      ∙ get_or-append-add hd (primary n u ++ q) (length (primary n u) + i) 0
      ∙ get_or-append-add (primary n u) q i 0
      ∙ get_or-front (overflow_part n u) (index_part (overflow_slots n u)) i (rw length-overflow_part h)

  -- the bytes that a move into or out of overflow leaves alone
  module _ (prefix : (i : ℕ) → i < 12 * overflow_count s v → get_or (overflow_part n w) i 0 ≡ get_or (overflow_part n v) i 0)
      (few : overflow_count s v ≤ overflow_count n v) (few' : overflow_count s v ≤ overflow_count n w) where
    kept : (i : ℕ) → i < 40 + n + 12 * overflow_count s v → (16 ≤ i → i < 40 → ⊥) → (i ≡ 40 + s → ⊥)
        → get_or (file n w) i 0 ≡ get_or (file n v) i 0
    kept i high counts other =
        elim (dec_le 40 i) [
          | yes d ↦
              elim (dec_le (40 + n) i) [
                | yes d' ↦ (let j : ℕ = i - (40 + n) in
                    let e : i ≡ 40 + n + j = omega arith in
                    rw e
                    (file-entries w j (omega arith) ∙ prefix j (omega arith) ∙ sym (file-entries v j (omega arith))))
                | no d' ↦ (let j : ℕ = i - 40 in
                    let e : i ≡ 40 + j = omega arith in
                    rw e
                    (file-primary w j (omega arith)
                    ∙ ap (λ (l : List ℕ). get_or l j 0) (primary-edited n v w s inside same)
                    ∙ get_or-set_other (primary n v) s j (primary_byte (w s)) 0 (λ q. other (omega arith))
                    ∙ sym (file-primary v j (omega arith))))
              ]
          | no d ↦
              elim (dec_le 16 i) [
                | yes d' ↦ absurd (counts d' (omega arith))
                | no d' ↦ file-header w i (omega arith)
                    ∙ header-start (overflow_count n w) (overflow_count n v) i (omega arith)
                    ∙ sym (file-header v i (omega arith))
              ]
        ]

-- ---- a refused edit changes no byte

pub buffer-refused : (b : List ℕ) (e : Edit) (r : Refusal) → edit_outcome b e ≡ Err r → edit_buffer b e ≡ b
unfolding edit_buffer
buffer-refused b e r is = rw is

-- ---- an edit of x, whose file stands at the front, is answered as by the plain editor

module _ (x t : List ℕ) (l : Limits x) (e : Edit) where
  pub edit-plain : edit_outcome (file_of x ++ t) e ≡ plain_outcome x (length (file_of x ++ t)) e
  unfolding edit_outcome
  edit-plain = rw (front-list x t l, front-counts x t l 1)

-- ---- an accepted one

module _ (x t : List ℕ) (l : Limits x) (e : Edit) (sm : Summary)
    (accepted : edit_outcome (file_of x ++ t) e ≡ Ok sm) where
  plain-accepted : plain_outcome x (length (file_of x ++ t)) e ≡ Ok sm
  plain-accepted = sym (edit-plain x t l e) ∙ accepted

  slot-inside : e.slot < length x
  unfolding plain_outcome
  slot-inside = leb-false _ _ (refuse_if-done (leb (length x) e.slot) _ _ sm plain-accepted).0

  new-fits : length (file_of (edited x e)) ≤ length (file_of x ++ t)
  unfolding plain_outcome
  new-fits =
      let g = refuse_if-done (leb (length x) e.slot) _ _ sm plain-accepted in
      ltb-false _ _ (refuse_if-done (ltb (length (file_of x ++ t)) (length (file_of (edited x e)))) _ _ sm g.1).0

  buffer-is : edit_buffer (file_of x ++ t) e ≡ replaced (file_of x ++ t) x (edited x e)
  unfolding edit_buffer
  buffer-is = rw (accepted, front-list x t l)

  new-at : at (edited x e) e.slot ≡ e.distance
  new-at = edited-at x e slot-inside

  -- where the new file is as long as the old one
  replaced-same : length (file_of (edited x e)) ≡ length (file_of x)
      → replaced (file_of x ++ t) x (edited x e) ≡ file_of (edited x e) ++ t
  unfolding replaced
  replaced-same long =
      let m : max (length (file_of x)) (length (file_of (edited x e))) ≡ length (file_of x) = omega arith in
      let z : length (file_of x) - length (file_of (edited x e)) ≡ 0 = omega arith in
      rw (m, z, drop_at (file_of x) t (length (file_of x)) refl)

  -- f: the new file, of the same length
  buffer-same : (f : List ℕ) → file_of (edited x e) ≡ f → length f ≡ length (file_of x)
      → edit_buffer (file_of x ++ t) e ≡ f ++ t
  buffer-same f is long = buffer-is ∙ replaced-same (ap length is ∙ long) ∙ ap (λ (a : List ℕ). a ++ t) is

  length-old : length (file_of x) ≡ file_len (length x) (overflow_count (length x) (at x))
  length-old = length-file (length x) (at x)

  pub edit-stays-inline : at x e.slot < 255 → e.distance < 255
      → edit_buffer (file_of x ++ t) e ≡ set (file_of x ++ t) (40 + e.slot) e.distance
  edit-stays-inline old new =
      let place : ℕ = 40 + e.slot in
      let f : file_of (edited x e) ≡ set (file_of x) place e.distance =
      file-edited x e
      ∙ file-inline (length x) (at x) (at (edited x e)) e.slot slot-inside (edited-other x e) old (rw new-at new)
      ∙ ap (set (file_of x) place) new-at in
      let fits : place < length (file_of x) =
      omega (arith, slot-inside, length-old, file_len-is (length x) (overflow_count (length x) (at x))) in
      buffer-same _ f (length-set (file_of x) place e.distance)
      ∙ sym (set-append_left (file_of x) t place e.distance fits)

  pub edit-stays-overflow : 255 ≤ at x e.slot → 255 ≤ e.distance
      → edit_buffer (file_of x ++ t) e ≡ sets (file_of x ++ t) (entry_place x e.slot + 8) (le 4 e.distance)
  edit-stays-overflow old new =
      let place : ℕ = entry_place x e.slot + 8 in
      let f : file_of (edited x e) ≡ sets (file_of x) place (le 4 e.distance) =
      file-edited x e
      ∙ file-overflow (length x) (at x) (at (edited x e)) e.slot slot-inside (edited-other x e) old (rw new-at new)
      ∙ ap (λ (d : ℕ). sets (file_of x) place (le 4 d)) new-at in
      let fits : place + length (le 4 e.distance) ≤ length (file_of x) =
      omega (
        arith,
        length-le 4 e.distance,
        count-inside (length x) (at x) (at (edited x e)) e.slot slot-inside (edited-other x e) old,
        length-old,
        file_len-is (length x) (overflow_count (length x) (at x)),
      ) in
      buffer-same _ f (length-sets (file_of x) place (le 4 e.distance))
      ∙ sym (sets-append-left (file_of x) t place (le 4 e.distance) fits)

  -- an edit to the same distance changes nothing
  pub edit-same : e.distance ≡ at x e.slot → edit_buffer (file_of x ++ t) e ≡ file_of x ++ t
  edit-same q =
      let f : edited x e ≡ x = ap (set x e.slot) q ∙ set-get_or x e.slot 0 in
      buffer-same (file_of x) (ap file_of f) refl

  -- ---- the three stretches of the buffer afterwards, and its length

  byte-is : (i : ℕ) → get_or (edit_buffer (file_of x ++ t) e) i 0 ≡ get_or (replaced (file_of x ++ t) x (edited x e)) i 0
  byte-is i = ap (λ (b : List ℕ). get_or b i 0) buffer-is

  pub edit-front : take (length (file_of (edited x e))) (edit_buffer (file_of x ++ t) e) ≡ file_of (edited x e)
  unfolding replaced
  edit-front = ap (take (length (file_of (edited x e)))) buffer-is ∙ take_at (file_of (edited x e)) _ _ refl

  pub edit-freed : (i : ℕ) → length (file_of (edited x e)) ≤ i → i < length (file_of x)
      → get_or (edit_buffer (file_of x ++ t) e) i 0 ≡ 0
  unfolding replaced
  edit-freed i low high =
      let Ly : ℕ = length (file_of (edited x e)) in
      let free : ℕ = length (file_of x) - Ly in
      byte-is i
      ∙ get_or-behind (file_of (edited x e)) _ i low
      ∙ get_or-front (replicate free 0) _ (i - Ly) (rw length-replicate (omega arith))
      ∙ get_or-replicate free (i - Ly) 0 0 (omega arith)

  pub edit-past : (i : ℕ) → length (file_of x) ≤ i → length (file_of (edited x e)) ≤ i
      → get_or (edit_buffer (file_of x ++ t) e) i 0 ≡ get_or (file_of x ++ t) i 0
  unfolding replaced
  edit-past i old new =
      let Lx : ℕ = length (file_of x) in
      let Ly : ℕ = length (file_of (edited x e)) in
      let free : length (replicate {A = ℕ} (Lx - Ly) 0) ≡ Lx - Ly = length-replicate (Lx - Ly) 0 in
      let place : max Lx Ly + (i - Ly - length (replicate {A = ℕ} (Lx - Ly) 0)) ≡ i = omega arith in
      byte-is i
      ∙ get_or-behind (file_of (edited x e)) _ i new
      ∙ get_or-behind (replicate (Lx - Ly) 0) _ (i - Ly) (omega arith)
      ∙ get_or-drop (max Lx Ly) (file_of x ++ t) _ 0
      ∙ ap (λ (j : ℕ). get_or (file_of x ++ t) j 0) place

  pub edit-length : length (edit_buffer (file_of x ++ t) e) ≡ length (file_of x ++ t)
  unfolding replaced
  edit-length =
      ap length buffer-is
      ∙ simp (length-append, length-replicate, length-drop) (omega (arith, new-fits, length-append (file_of x) t))

  -- ---- the limits

  -- how many entries stand before the slot's
  before-old : overflow_count e.slot (at x) ≤ overflow_count (length x) (at x)
  before-old = count-below (length x) (at x) (at (edited x e)) e.slot slot-inside (edited-other x e)

  before-new : overflow_count e.slot (at x) ≤ overflow_count (length x) (at (edited x e))
  before-new =
      omega (
        arith,
        below-count (length x) (at x) (at (edited x e)) e.slot slot-inside (edited-other x e),
        count-below (length x) (at (edited x e)) (at x) e.slot slot-inside (λ i ne. sym (edited-other x e i ne)),
      )

  -- a move into or out of overflow: the entries before the slot's stay, and X follows them
  module _ (X : List ℕ)
      (part : overflow_part (length x) (at (edited x e))
      ≡ take (12 * overflow_count e.slot (at x)) (overflow_part (length x) (at x)) ++ X) where
    prefix : (i : ℕ) → i < 12 * overflow_count e.slot (at x)
        → get_or (overflow_part (length x) (at (edited x e))) i 0 ≡ get_or (overflow_part (length x) (at x)) i 0
    prefix i h =
        let q : ℕ = 12 * overflow_count e.slot (at x) in
        let old : List ℕ = overflow_part (length x) (at x) in
        let fits : q ≤ length old = omega (arith, before-old, length-overflow_part (length x) (at x)) in
        ap (λ (b : List ℕ). get_or b i 0) part
        ∙ get_or-front (take q old) X i (omega (arith, length-take-le q old fits))
        ∙ get_or-take q old i 0 h

    moved-kept : (i : ℕ) → i < entry_place x e.slot → (16 ≤ i → i < 40 → ⊥) → (i ≡ 40 + e.slot → ⊥)
        → get_or (edit_buffer (file_of x ++ t) e) i 0 ≡ get_or (file_of x ++ t) i 0
    unfolding replaced
    moved-kept i low counts other =
        let k : ℕ = overflow_count (length x) (at x) in
        let k' : ℕ = overflow_count (length x) (at (edited x e)) in
        let few = before-old in
        let few' = before-new in
        let in_new : i < length (file_of (edited x e)) =
        omega (
          arith,
          ap length (file-edited x e) ∙ length-file (length x) (at (edited x e)),
          file_len-is (length x) k',
        ) in
        let in_old : i < length (file_of x) = omega (arith, length-old, file_len-is (length x) k) in
        byte-is i
        ∙ get_or-front (file_of (edited x e)) _ i in_new
        ∙ ap (λ (b : List ℕ). get_or b i 0) (file-edited x e)
        ∙ kept (length x) (at x) (at (edited x e)) e.slot slot-inside (edited-other x e) prefix few few' i low
        counts other
        ∙ sym (get_or-front (file_of x) t i in_old)

    moved-limits : (i : ℕ) → (get_or (edit_buffer (file_of x ++ t) e) i 0 ≡ get_or (file_of x ++ t) i 0 → ⊥)
        → ((16 ≤ i) × (i < 40)) ⊎ ((i ≡ 40 + e.slot) ⊎ (entry_place x e.slot ≤ i))
    moved-limits i changed =
        elim (dec_le (entry_place x e.slot) i) [
          | yes high ↦ inr (inr high)
          | no low ↦
              elim (ℕ_discrete i (40 + e.slot)) [
                | yes q ↦ inr (inl q)
                | no other ↦
                    elim (dec_le 16 i) [
                      | no d ↦ absurd (changed (moved-kept i (omega arith) (λ h h'. omega arith) other))
                      | yes h ↦
                          elim (dec_le 40 i) [
                            | yes d ↦ absurd (changed (moved-kept i (omega arith) (λ g g'. omega arith) other))
                            | no d ↦ inl (h, omega arith)
                          ]
                    ]
              ]
        ]

  pub edit-limits : (i : ℕ) → (get_or (edit_buffer (file_of x ++ t) e) i 0 ≡ get_or (file_of x ++ t) i 0 → ⊥)
      → MayChange x e i
  edit-limits i changed = go (in_overflow (at x e.slot)) (in_overflow e.distance) refl refl
    where
      go : (p q : Bool) → in_overflow (at x e.slot) ≡ p → in_overflow e.distance ≡ q → LimitsBy p q x e.slot i
      go false false hp hq =
          elim (ℕ_discrete i (40 + e.slot)) [
            | yes d ↦ d
            | no d ↦ absurd
                (changed
                (ap (λ (b : List ℕ). get_or b i 0) (edit-stays-inline (leb-false _ _ hp) (leb-false _ _ hq))
                ∙ get_or-set_other (file_of x ++ t) (40 + e.slot) i e.distance 0 d))
          ]
      go true true hp hq =
          let new : List ℕ = le 4 e.distance in
          let place : ℕ = entry_place x e.slot + 8 in
          let is = ap (λ (b : List ℕ). get_or b i 0) (edit-stays-overflow (leb-true _ _ hp) (leb-true _ _ hq)) in
          elim (dec_le place i) [
            | yes low ↦
                elim (dec_le (place + 4) i) [
                  | yes high ↦ (let past : place + length new ≤ i = omega (arith, length-le 4 e.distance) in
                      absurd (changed (is ∙ get_or-sets-above new (file_of x ++ t) place i past)))
                  | no high ↦ (low, omega arith)
                ]
            | no low ↦ absurd (changed (is ∙ get_or-sets-below new (file_of x ++ t) place i (omega arith)))
          ]
      go true false hp hq =
          let out =
          entries-out (length x) (at x) (at (edited x e)) e.slot slot-inside (edited-other x e) (leb-true _ _ hp)
          (rw new-at (leb-false _ _ hq)) in
          moved-limits _ out i changed
      go false true hp hq =
          let into =
          entries-in (length x) (at x) (at (edited x e)) e.slot slot-inside (edited-other x e) (leb-false _ _ hp)
          (rw new-at (leb-true _ _ hq)) in
          moved-limits _ into i changed

-- ---- accepted or refused

module _ (x t : List ℕ) (l : Limits x) (e : Edit) where
  pub edit-step : StepLimits (length (file_of x ++ t)) x (file_of x ++ t) e
  edit-step =
      record {
        whole = refl;
        holds_file = take_at (file_of x) t _ refl;
        sets_slot = λ s is. edit-front x t l e s (edit-plain x t l e ∙ is);
        on_refusal = λ r is. buffer-refused (file_of x ++ t) e r (edit-plain x t l e ∙ is);
        changed = λ i differs.
            either (λ s is. edit-limits x t l e s is i differs)
            (λ q. absurd (differs (ap (λ (b : List ℕ). get_or b i 0) q)));
        freed = λ s is. edit-freed x t l e s (edit-plain x t l e ∙ is);
        past = λ i old new. either (λ s is. edit-past x t l e s is i old new) (ap (λ (b : List ℕ). get_or b i 0));
        same = λ d. either (λ s is. edit-same x t l e s is d) (λ q. q);
        length_stays = either (λ s is. edit-length x t l e s is) (ap length);
      }
    where
      -- what holds of an accepted edit and of an unchanged buffer
      either : {P : Type 0} → ((s : Summary) → edit_outcome (file_of x ++ t) e ≡ Ok s → P)
          → (edit_buffer (file_of x ++ t) e ≡ file_of x ++ t → P) → P
      either {P} accepted unchanged = go (edit_outcome (file_of x ++ t) e) refl
        where
          go : (o : Outcome Summary) → edit_outcome (file_of x ++ t) e ≡ o → P
          go (Ok s) is = accepted s is
          go (Err r) is = unchanged (buffer-refused (file_of x ++ t) e r is)
