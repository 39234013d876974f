-- The overflow entries that an edit moves (docs/FORMAT.md, "The editor").
--   above-overflow, -inline    the entries of a list, around a slot
--   moved-stays, -into, _out   an edit of a list that stays inline or in overflow; one into overflow, and out of it
--   moved-done, -refused       the editor's number, by its outcome;  plain-refused  the plain editor's
--   moved-le, edit-moved-le    at most as many as there were
--   has_entry, renumbered       a slot has an entry in a file;  one in each of two files, with different numbers
--   entries-stay               an edit leaves the other slots with an entry, or without one
--   moved-renumbered, edit-renumbered
--                              the number is how many entries of other slots have another number in the new file
-- Axioms: none.
use Rattle.std.proofs.Common.{Ok, Err}
use mathlib.Core.Path.{◌≡◌, refl, sym, ap, ap₂, ◌∙◌}
use Prim.Native.Nat.{ℕ, suc, ◌+◌, ◌-◌, ◌≤◌, ◌<◌}
use native.Mathlib.Omega.{arith}
use native.Mathlib.Decide.{dec_le}
use mathlib.Core.Bool.{Bool, true, false, not, xor, cond, ◌&&◌}
use mathlib.Core.List.{List, []}
use lib.ListN.{length}
use lib.Dec.{ltb, leb, eqb}
use borrow.Author.Tests.{lt-ltb, le-ltb, le-leb, lt-leb, leb-false, eq-eqb, ne_eqb}
use Rattle.pciv_bytes.specs.Ranges.{positions}
use Rattle.pciv_bytes.specs.LittleEndian.{Bytes}
use Rattle.pciv_bytes.proofs.PositionsLaws.{positions-cong, positions-none, positions-around}
use Rattle.pciv_format.specs.Layout.{max_distance, in_overflow, overflow_count, at, file_of, Limits}
use Rattle.pciv_format.specs.Refusals.{Outcome}
use Rattle.pciv_format.specs.Check.{n_field, k_field, counts_buffer, CheckedMap}
use Rattle.pciv_format.specs.Read.{entry_number}
use Rattle.pciv_format.specs.Edit.{Edit, edited, plain_outcome, edited_file, edit_outcome, replaced, if_accepted}
use Rattle.pciv_format.specs.Edit.{edit_buffer, entries_above, moved_by, plain_moved, edit_moved}
use Rattle.pciv_format.specs.declared.Counts.{Counts}
use Rattle.pciv_format.specs.declared.Summary.{Summary}
use Rattle.pciv_format.specs.declared.Refusal.{Refusal}
use Rattle.pciv_format.proofs.RefusalsLaws.{refuse_if-done, and_then-done}
use Rattle.pciv_format.proofs.LayoutLaws.{overflow_slots-at, overflow_count-cong}
use Rattle.pciv_format.proofs.CheckLaws.{done-buffer}
use Rattle.pciv_format.proofs.FileLaws.{file-checked}
use Rattle.pciv_format.proofs.FrontLaws.{Holds, front-file, checked-front}
use Rattle.pciv_format.proofs.OriginLaws.{overflow-inside, file-entry_number}
use Rattle.pciv_format.proofs.EditLaws.{edited-at, edited-other, edited-limits}
use Rattle.pciv_format.proofs.EditLaws.{count-overflow, count-inline, count-in, count-stays}
use Rattle.pciv_format.proofs.LimitLaws.{buffer-refused}
use Rattle.pciv_format.proofs.EditCaseLaws.{held, buffer-done}

-- ---- the entries around a slot

module _ (x : List ℕ) (s : ℕ) where
  module _ (inside : s < length x) where
    -- those of smaller slots, its own, and those of larger ones
    pub above-overflow : 255 ≤ at x s
        → overflow_count (length x) (at x) ≡ overflow_count s (at x) + suc (entries_above x s)
    unfolding entries_above
    above-overflow h = count-overflow (length x) (at x) (at x) s inside (λ i ne. refl) h

    pub above-inline : at x s < 255 → overflow_count (length x) (at x) ≡ overflow_count s (at x) + entries_above x s
    unfolding entries_above
    above-inline h = count-inline (length x) (at x) (at x) s inside (λ i ne. refl) h

  above-le : entries_above x s ≤ overflow_count (length x) (at x)
  unfolding entries_above positions
  above-le =
      elim (dec_le (length x) s) [
        | yes past ↦ (let none : length x - suc s ≡ 0 = omega arith in rw none (omega arith))
        | no d ↦ (let inside : s < length x = omega arith in
            elim (dec_le 255 (at x s)) [
              | yes h ↦ omega (arith, above-overflow inside h)
              | no h ↦ omega (arith, above-inline inside (omega arith))
            ])
      ]

-- ---- an edit of a list

module _ (x : List ℕ) (e : Edit) where
  pub moved-stays : in_overflow (at x e.slot) ≡ in_overflow e.distance → moved_by x e ≡ 0
  unfolding moved_by xor
  moved-stays same = rw same (go (in_overflow e.distance))
    where
      go : (o : Bool) → cond (xor o o) (entries_above x e.slot) 0 ≡ 0
      go true = refl
      go false = refl

  pub moved-into : at x e.slot < 255 → 255 ≤ e.distance → moved_by x e ≡ entries_above x e.slot
  unfolding moved_by xor
  moved-into was overflows = rw (lt-leb 255 (at x e.slot) was, le-leb 255 e.distance overflows)

  pub moved_out : 255 ≤ at x e.slot → e.distance < 255 → moved_by x e ≡ entries_above x e.slot
  unfolding moved_by xor
  moved_out was inline = rw (le-leb 255 (at x e.slot) was, lt-leb 255 e.distance inline)

  moved_by-le : moved_by x e ≤ overflow_count (length x) (at x)
  unfolding moved_by
  moved_by-le = go (xor (in_overflow (at x e.slot)) (in_overflow e.distance))
    where
      go : (o : Bool) → cond o (entries_above x e.slot) 0 ≤ overflow_count (length x) (at x)
      go true = above-le x e.slot
      go false = omega arith

  module _ (R : ℕ) where
    pub plain-refused : (r : Refusal) → plain_outcome x R e ≡ Err r → plain_moved x R e ≡ 0
    unfolding plain_moved
    plain-refused r is = rw is

    -- at most the old k
    pub moved-le : plain_moved x R e ≤ overflow_count (length x) (at x)
    unfolding plain_moved
    moved-le = go (plain_outcome x R e)
      where
        go : (o : Outcome Summary) → if_accepted o (moved_by x e) 0 ≤ overflow_count (length x) (at x)
        go (Ok s) = moved_by-le
        go (Err r) = omega arith

-- ---- the editor's number

module _ (b : List ℕ) (e : Edit) where
  pub moved-done : (s : Summary) → edit_outcome b e ≡ Ok s → edit_moved b e ≡ moved_by (held b) e
  unfolding edit_moved
  moved-done s is = rw is

  pub moved-refused : (r : Refusal) → edit_outcome b e ≡ Err r → edit_moved b e ≡ 0
  unfolding edit_moved
  moved-refused r is = rw is

-- an accepted edit of a buffer of bytes
module _ (b : List ℕ) (bytes : Bytes b) (e : Edit) (s : Summary) (is : edit_outcome b e ≡ Ok s) where
  -- its counts, that it is a checked map with them, and the plain editor's outcome
  accepted : (c : Counts) × CheckedMap b c.n c.k × (plain_outcome (held b) (length b) e ≡ Ok s)
  unfolding edit_outcome
  accepted =
      let c = and_then-done (counts_buffer 1 b) _ s is in
      (c.0, done-buffer 1 b c.0 c.1, c.2)

  there : Holds b accepted.0.n accepted.0.k (held b)
  there = checked-front b _ _ bytes accepted.1

  done-moved-le : edit_moved b e ≤ k_field b
  done-moved-le =
      let h = there in
      let most = moved_by-le (held b) e in
      let same = ap (λ (n : ℕ). overflow_count n (at (held b))) h.slots in
      omega (arith, moved-done b e s is, h.count, accepted.1.header.k_is)

pub edit-moved-le : (b : List ℕ) → Bytes b → (e : Edit) → edit_moved b e ≤ k_field b
edit-moved-le b bytes e = go (edit_outcome b e) refl
  where
    go : (o : Outcome Summary) → edit_outcome b e ≡ o → edit_moved b e ≤ k_field b
    go (Ok s) is = done-moved-le b bytes e s is
    go (Err r) is = omega (arith, moved-refused b e r is)

-- ---- numbers of entries in two files

-- slot i has an overflow entry in the file f
abbrev pub has_entry : List ℕ → ℕ → Bool
has_entry f i = ltb (entry_number f i) (k_field f)

-- slot i is not s and has an entry in f and in g, and their numbers differ
abbrev pub renumbered : List ℕ → List ℕ → ℕ → ℕ → Bool
renumbered f g s i = not (eqb i s) && has_entry f i && has_entry g i && not (eqb (entry_number f i) (entry_number g i))

and-false : (o : Bool) → o && false ≡ false
and-false true = refl
and-false false = refl

module _ (x : List ℕ) (l : Limits x) where
  k-field : k_field (file_of x) ≡ overflow_count (length x) (at x)
  k-field = (file-checked (length x) (at x) l.count l.each).header.k_is

  number-overflow : (i : ℕ) → 255 ≤ at x i → entry_number (file_of x) i ≡ overflow_count i (at x)
  number-overflow i h = file-entry_number x l i ∙ rw (le-leb 255 (at x i) h)

  has-entry : (i : ℕ) → has_entry (file_of x) i ≡ in_overflow (at x i)
  has-entry i =
      elim (dec_le 255 (at x i)) [
        | yes h ↦ (let below = (overflow_slots-at (length x) (at x) i (overflow-inside x i h) h).0 in
            lt-ltb (entry_number (file_of x) i) (k_field (file_of x)) (omega (arith, number-overflow i h, k-field))
            ∙ sym (le-leb 255 (at x i) h))
        | no h ↦ (let inline = lt-leb 255 (at x i) (omega arith) in
            let number : entry_number (file_of x) i ≡ overflow_count (length x) (at x) =
            file-entry_number x l i ∙ rw inline in
            le-ltb (entry_number (file_of x) i) (k_field (file_of x)) (omega (arith, number, k-field)) ∙ sym inline)
      ]

module _ (x : List ℕ) (e : Edit) (l : Limits x) (small : e.distance ≤ max_distance) where
  -- the distances before and after
  abbrev v : ℕ → ℕ
  v = at x

  abbrev w : ℕ → ℕ
  w = at (edited x e)

  limits : Limits (edited x e)
  limits = edited-limits x e l small

  pub entries-stay : (i : ℕ) → (i ≡ e.slot → ⊥) → has_entry (file_of (edited x e)) i ≡ has_entry (file_of x) i
  entries-stay i ne =
      has-entry (edited x e) limits i ∙ ap in_overflow (sym (edited-other x e i ne)) ∙ sym (has-entry x l i)

  abbrev other : ℕ → Bool
  other = renumbered (file_of x) (file_of (edited x e)) e.slot

  -- in overflow, a slot's number is the count of such slots below it
  other-is : (i : ℕ) → (i ≡ e.slot → ⊥)
      → other i ≡ in_overflow (v i) && not (eqb (overflow_count i v) (overflow_count i w))
  other-is i ne =
      rw (ne_eqb i e.slot ne, entries-stay i ne, has-entry x l i)
      (elim (dec_le 255 (v i)) [
        | yes h ↦ (let h' : 255 ≤ w i = omega (arith, edited-other x e i ne) in
            rw (le-leb 255 (v i) h)
            (ap₂ (λ (a c : ℕ). not (eqb a c)) (number-overflow x l i h)
            (number-overflow (edited x e) limits i h')))
        | no h ↦ rw (lt-leb 255 (v i) (omega arith))
      ])

  other-same : (i : ℕ) → (i ≡ e.slot → ⊥) → overflow_count i v ≡ overflow_count i w → other i ≡ false
  other-same i ne same = other-is i ne ∙ rw (eq-eqb _ _ same) (and-false (in_overflow (v i)))

  other_differs : (i : ℕ) → (i ≡ e.slot → ⊥) → (overflow_count i v ≡ overflow_count i w → ⊥)
      → other i ≡ in_overflow (v i)
  other_differs i ne differ = other-is i ne ∙ rw (ne_eqb _ _ differ) (go (in_overflow (v i)))
    where
      go : (o : Bool) → o && true ≡ o
      go true = refl
      go false = refl

  module _ (inside : e.slot < length x) where
    -- below the slot no number changes
    below : positions other 0 e.slot ≡ []
    below =
        positions-none other 0 e.slot
        (λ i h₁ h₂.
        other-same i (λ q. omega arith)
        (overflow_count-cong i v w (λ j h. edited-other x e j (λ q. omega arith))))

    -- so those that change are above it
    counted : length (positions other 0 (length x)) ≡ length (positions other (suc e.slot) (length x - suc e.slot))
    counted =
        ap length (positions-around other (length x) e.slot inside)
        ∙ rw (below, eq-eqb e.slot e.slot refl)

    -- where the slot stays inline or in overflow, none does
    stays : in_overflow (v e.slot) ≡ in_overflow e.distance → length (positions other 0 (length x)) ≡ moved_by x e
    stays same =
        counted
        ∙ ap length
        (positions-none other (suc e.slot) (length x - suc e.slot)
        (λ i h₁ h₂.
        other-same i (λ q. omega arith)
        (sym
        (count-stays i v w e.slot h₁ (edited-other x e)
        (same ∙ ap in_overflow (sym (edited-at x e inside)))))))
        ∙ sym (moved-stays x e same)

    -- else all do
    moves : moved_by x e ≡ entries_above x e.slot
        → ((i : ℕ) → e.slot < i → overflow_count i v ≡ overflow_count i w → ⊥)
        → length (positions other 0 (length x)) ≡ moved_by x e
    unfolding entries_above
    moves is differ =
        counted
        ∙ ap length
        (positions-cong other (λ (i : ℕ). in_overflow (v i)) (suc e.slot) (length x - suc e.slot)
        (λ i h₁ h₂. other_differs i (λ q. omega arith) (differ i h₁)))
        ∙ sym is

    by-case : length (positions other 0 (length x)) ≡ moved_by x e
    by-case =
        let new = edited-at x e inside in
        elim (dec_le 255 (v e.slot)) [
          | yes was ↦ elim (dec_le 255 e.distance) [
            | yes overflows ↦ stays (le-leb 255 _ was ∙ sym (le-leb 255 _ overflows))
            | no d ↦ (let inline : e.distance < 255 = omega arith in
                moves (moved_out x e was inline)
                (λ i h same.
                (let c = count-in i w v e.slot h (λ j ne. sym (edited-other x e j ne)) (rw new inline) was in
                omega arith)))
          ]
          | no d ↦ (let was : v e.slot < 255 = omega arith in
              elim (dec_le 255 e.distance) [
                | yes overflows ↦ moves (moved-into x e was overflows)
                    (λ i h same.
                    (let c = count-in i v w e.slot h (edited-other x e) was (rw new overflows) in omega arith))
                | no d' ↦ stays (lt-leb 255 _ was ∙ sym (lt-leb 255 e.distance (omega arith)))
              ])
        ]

  -- both numbers are read from the bytes of the two files
  pub moved-renumbered : (R : ℕ) (s : Summary) → plain_outcome x R e ≡ Ok s
      → plain_moved x R e
      ≡ length (positions (renumbered (file_of x) (file_of (edited x e)) e.slot) 0 (length x))
  unfolding plain_moved plain_outcome
  moved-renumbered R s is = rw is (sym (by-case (accepted-inside R s is)))
    where
      accepted-inside : (R : ℕ) (s : Summary) → plain_outcome x R e ≡ Ok s → e.slot < length x
      accepted-inside R s is = leb-false (length x) e.slot (refuse_if-done (leb (length x) e.slot) _ _ s is).0

-- the files at the front of the buffer just before and just after; a refused edit leaves the one that was there
pub edit-renumbered : (b : List ℕ) → Bytes b → (e : Edit) → e.distance ≤ max_distance
    → edit_moved b e
    ≡ length (positions (renumbered (edited_file b) (edited_file (edit_buffer b e)) e.slot) 0 (n_field b))
unfolding replaced edit_moved plain_moved
edit-renumbered b bytes e small = go (edit_outcome b e) refl
  where
    count : List ℕ → List ℕ → ℕ → ℕ
    count f g m = length (positions (renumbered f g e.slot) 0 m)

    replaced-file : (x y : List ℕ) → Limits y → edited_file (replaced b x y) ≡ file_of y
    replaced-file x y l = front-file y _ l

    same-file : (f : List ℕ) (m : ℕ) → count f f m ≡ 0
    same-file f m =
        ap length
        (positions-none (renumbered f f e.slot) 0 m
        (λ i h₁ h₂.
        rw (eq-eqb (entry_number f i) (entry_number f i) refl)
        (and-false (not (eqb i e.slot) && has_entry f i && has_entry f i))))

    go : (o : Outcome Summary) → edit_outcome b e ≡ o
        → edit_moved b e ≡ count (edited_file b) (edited_file (edit_buffer b e)) (n_field b)
    go (Ok s) is =
        let x : List ℕ = held b in
        let h = there b bytes e s is in
        let c = accepted b bytes e s is in
        let moved : edit_moved b e ≡ plain_moved x (length b) e = rw (is, c.2) in
        let n : length x ≡ n_field b = h.slots ∙ sym c.1.header.n_is in
        let old : edited_file b ≡ file_of x = ap edited_file h.apart ∙ front-file x _ h.limits in
        let new : edited_file (edit_buffer b e) ≡ file_of (edited x e) =
        ap edited_file (buffer-done b e s is) ∙ replaced-file x (edited x e) (edited-limits x e h.limits small) in
        moved
        ∙ moved-renumbered x e h.limits small (length b) s c.2
        ∙ ap₂ (λ (f g : List ℕ). count f g (length x)) (sym old) (sym new)
        ∙ ap (count (edited_file b) (edited_file (edit_buffer b e))) n
    go (Err r) is =
        moved-refused b e r is
        ∙ sym
        (ap (λ (g : List ℕ). count (edited_file b) (edited_file g) (n_field b)) (buffer-refused b e r is)
        ∙ same-file (edited_file b) (n_field b))
