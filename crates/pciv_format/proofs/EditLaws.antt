-- What one edit makes of a list and of its file. Of the file: v before, w after, which differ at slot s alone; p
-- entries stand before the place of the entry of s.
--   edited-at, -other, length-edited, file-edited, edited-limits
--                      the list that an edit leaves: at the slot, elsewhere, its length, its file, its limits
--   primary-edited     of the primary array, the byte of s is set
--   file-inline        both inline: so it is of the file
--   file-overflow      both in overflow: the four distance bytes of the slot's entry are set
--   entries-in, -out   into overflow: the entry of s is put in behind p entries;  out of it: it is taken out
--   count-overflow, -inline    the entries around s, which is in overflow or inline
--   count-in, -stays   how many entries there are after a move into overflow, and where s stays inline or in overflow
--   count-below        p is at most the number of entries;  count-inside  less, where s is in overflow
--   below-count        p is the same of v and of w
-- Axioms: none.
use mathlib.Core.Path.{◌≡◌, sym, ap, ap₂, ◌∙◌}
use Prim.Native.Nat.{ℕ, suc, ◌+◌, ◌-◌, ◌*◌, ◌≤◌, ◌<◌}
use native.Mathlib.Nat.{zero-add}
use native.Mathlib.Omega.{arith}
use native.Mathlib.Decide.{ℕ_discrete}
use mathlib.Core.Bool.{Bool}
use mathlib.Core.List.{List, ◌∷◌, ◌++◌, append_assoc}
use lib.ListN.{length, get_or, take, drop, set, length-append, length-set}
use lib.Seq.{take_at, drop_at, drop-drop, ext_get_or, get_or-set_same, get_or-set_other, set-get_or, set-append_left, sets}
use borrow.Author.Tests.{le-leb, lt-leb}
use Rattle.pciv_bytes.specs.Ranges.{table, keep_if, positions, joined}
use Rattle.pciv_bytes.specs.LittleEndian.{le}
use Rattle.pciv_bytes.proofs.RangesLaws.{length-table, get_or-table}
use Rattle.pciv_bytes.proofs.PositionsLaws.{positions-at, positions-cong, positions-around}
use Rattle.pciv_bytes.proofs.JoinedLaws.{length-joined, joined-cong, joined-append}
use Rattle.pciv_bytes.proofs.LittleEndianLaws.{length-le}
use Rattle.pciv_bytes.proofs.WriteLaws.{set-behind, sets_behind, sets_first}
use Rattle.pciv_format.specs.Layout.{max_distance, in_overflow, primary_byte, primary, overflow_slots}
use Rattle.pciv_format.specs.Layout.{overflow_count, overflow_entry, overflow_part, index_part, header}
use Rattle.pciv_format.specs.Layout.{file, at, file_of, Limits}
use Rattle.pciv_format.specs.Edit.{Edit, edited}
use Rattle.pciv_format.proofs.PartsLaws.{primary_byte-inline, primary_byte-overflow}
use Rattle.pciv_format.proofs.LayoutLaws.{length-header, length-primary, length-overflow_entry}

-- ---- the list that an edit leaves

module _ (x : List ℕ) (e : Edit) where
  pub edited-at : e.slot < length x → at (edited x e) e.slot ≡ e.distance
  edited-at inside = get_or-set_same x e.slot e.distance 0 inside

  pub edited-other : (i : ℕ) → (i ≡ e.slot → ⊥) → at x i ≡ at (edited x e) i
  edited-other i ne = sym (get_or-set_other x e.slot i e.distance 0 ne)

  pub length-edited : length (edited x e) ≡ length x
  length-edited = length-set x e.slot e.distance

  pub file-edited : file_of (edited x e) ≡ file (length x) (at (edited x e))
  file-edited = ap (λ (n : ℕ). file n (at (edited x e))) length-edited

  pub edited-limits : Limits x → e.distance ≤ max_distance → Limits (edited x e)
  edited-limits l small =
      record {
        count = rw length-edited l.count;
        each = λ i h.
            (let h' : i < length x = omega (arith, length-edited) in
            elim (ℕ_discrete i e.slot) [
              | yes here ↦ rw (here, edited-at (omega arith)) small
              | no other ↦ rw (← edited-other i other) (l.each i h')
            ]);
      }

-- ---- one slot's distance

module _ (n : ℕ) (v w : ℕ → ℕ) (s : ℕ) (inside : s < n) (same : (i : ℕ) → (i ≡ s → ⊥) → v i ≡ w i) where
  overflow-same : (i : ℕ) → (i ≡ s → ⊥) → in_overflow (v i) ≡ in_overflow (w i)
  overflow-same i ne = ap in_overflow (same i ne)

  -- ---- the slots in overflow, around s

  below-same : overflow_slots s v ≡ overflow_slots s w
  unfolding overflow_slots
  below-same =
      positions-cong (λ (i : ℕ). in_overflow (v i)) (λ (i : ℕ). in_overflow (w i)) 0 s
      (λ j h₁ h₂. overflow-same j (λ q. omega arith))

  abbrev pub above : (ℕ → ℕ) → List ℕ
  above u = positions (λ (i : ℕ). in_overflow (u i)) (suc s) (n - suc s)

  above_same : above v ≡ above w
  above_same =
      positions-cong (λ (i : ℕ). in_overflow (v i)) (λ (i : ℕ). in_overflow (w i)) (suc s) (n - suc s)
      (λ j h₁ h₂. overflow-same j (λ q. omega arith))

  around : (u : ℕ → ℕ) → overflow_slots n u ≡ overflow_slots s u ++ keep_if (in_overflow (u s)) s (above u)
  unfolding overflow_slots
  around u = positions-around (λ (i : ℕ). in_overflow (u i)) n s inside

  -- ---- their entries

  entry-same : (t : ℕ) → (t ≡ s → ⊥) → overflow_entry v t ≡ overflow_entry w t
  unfolding overflow_entry
  entry-same t ne = ap (λ (x : ℕ). le 8 t ++ le 4 x) (same t ne)

  before_same : joined (overflow_entry v) (overflow_slots s v) ≡ joined (overflow_entry w) (overflow_slots s w)
  unfolding overflow_slots
  before_same =
      joined-cong (overflow_entry v) (overflow_entry w) (overflow_slots s v)
      (λ j h.
      entry-same (get_or (overflow_slots s v) j 0)
      (λ q. omega (arith, (positions-at (λ (i : ℕ). in_overflow (v i)) 0 s j h).high)))
      ∙ ap (joined (overflow_entry w)) below-same

  after_same : joined (overflow_entry v) (above v) ≡ joined (overflow_entry w) (above w)
  after_same =
      joined-cong (overflow_entry v) (overflow_entry w) (above v)
      (λ j h.
      entry-same (get_or (above v) j 0)
      (λ q. omega (arith, (positions-at (λ (i : ℕ). in_overflow (v i)) (suc s) (n - suc s) j h).low)))
      ∙ ap (joined (overflow_entry w)) above_same

  before : List ℕ
  before = joined (overflow_entry v) (overflow_slots s v)

  after : List ℕ
  after = joined (overflow_entry v) (above v)

  length_before : length before ≡ 12 * overflow_count s v
  unfolding before overflow_count
  length_before = length-joined (overflow_entry v) 12 (length-overflow_entry v) (overflow_slots s v)

  -- the overflow part around slot s
  part-around : (u : ℕ → ℕ) → overflow_part n u
      ≡ joined (overflow_entry u) (overflow_slots s u)
      ++ joined (overflow_entry u) (keep_if (in_overflow (u s)) s (above u))
  unfolding overflow_part
  part-around u =
      ap (joined (overflow_entry u)) (around u)
      ∙ joined-append (overflow_entry u) (overflow_slots s u) (keep_if (in_overflow (u s)) s (above u))

  part-without-v : v s < 255 → overflow_part n v ≡ before ++ after
  unfolding before after
  part-without-v h = part-around v ∙ rw (lt-leb 255 (v s) h)

  part-without-w : w s < 255 → overflow_part n w ≡ before ++ after
  unfolding before after
  part-without-w h = part-around w ∙ rw (lt-leb 255 (w s) h, ← before_same, ← after_same)

  part-with-v : 255 ≤ v s → overflow_part n v ≡ before ++ (overflow_entry v s ++ after)
  unfolding before after joined
  part-with-v h = part-around v ∙ rw (le-leb 255 (v s) h)

  part-with-w : 255 ≤ w s → overflow_part n w ≡ before ++ (overflow_entry w s ++ after)
  unfolding before after joined
  part-with-w h = part-around w ∙ rw (le-leb 255 (w s) h, ← before_same, ← after_same)

  -- ---- the primary array

  pub primary-edited : primary n w ≡ set (primary n v) s (primary_byte (w s))
  unfolding primary
  primary-edited =
      let f : ℕ → ℕ = λ i. primary_byte (v i) in
      let g : ℕ → ℕ = λ i. primary_byte (w i) in
      ext_get_or 0 (table g 0 n) (set (table f 0 n) s (primary_byte (w s)))
      (length-table g 0 n ∙ sym (length-set (table f 0 n) s (primary_byte (w s)) ∙ length-table f 0 n))
      (λ i hi.
      (let h' : i < n = (rw length-table at hi) in
      get_or-table g 0 0 n i h'
      ∙ ap g (zero-add i)
      ∙ elim (ℕ_discrete i s) [
        | yes here ↦ rw here (sym (get_or-set_same (table f 0 n) s (primary_byte (w s)) 0 (rw length-table inside)))
        | no ne ↦ other i h' ne
      ]))
    where
      other : (i : ℕ) → i < n → (i ≡ s → ⊥)
          → primary_byte (w i) ≡ get_or (set (table (λ (i : ℕ). primary_byte (v i)) 0 n) s (primary_byte (w s))) i 0
      other i hi ne =
          ap primary_byte (sym (same i ne))
          ∙ sym
          (get_or-set_other (table (λ (i : ℕ). primary_byte (v i)) 0 n) s i (primary_byte (w s)) 0 ne
          ∙ get_or-table (λ (i : ℕ). primary_byte (v i)) 0 0 n i hi
          ∙ ap (λ (j : ℕ). primary_byte (v j)) (zero-add i))

  -- the slots in overflow stay where s stays inline, or in overflow
  slots-stay : in_overflow (v s) ≡ in_overflow (w s) → overflow_slots n v ≡ overflow_slots n w
  slots-stay e =
      around v
      ∙ ap₂ (λ (a b : List ℕ). a ++ b) below-same (ap₂ (λ (c : Bool) (l : List ℕ). keep_if c s l) e above_same)
      ∙ sym (around w)

  slots-inline : v s < 255 → w s < 255 → overflow_slots n v ≡ overflow_slots n w
  slots-inline hv hw = slots-stay (lt-leb 255 (v s) hv ∙ sym (lt-leb 255 (w s) hw))

  slots-overflow : 255 ≤ v s → 255 ≤ w s → overflow_slots n v ≡ overflow_slots n w
  slots-overflow hv hw = slots-stay (le-leb 255 (v s) hv ∙ sym (le-leb 255 (w s) hw))

  pub count-stays : in_overflow (v s) ≡ in_overflow (w s) → overflow_count n w ≡ overflow_count n v
  unfolding overflow_count
  count-stays e = ap length (sym (slots-stay e))

  -- ---- both inline

  pub file-inline : v s < 255 → w s < 255 → file n w ≡ set (file n v) (40 + s) (w s)
  unfolding file overflow_count
  file-inline hv hw =
      let part : overflow_part n v ≡ overflow_part n w = part-without-v hv ∙ sym (part-without-w hw) in
      let rest : List ℕ = overflow_part n v ++ index_part (overflow_slots n v) in
      let h : List ℕ = header n (length (overflow_slots n v)) in
      let L : length h ≡ 40 = length-header n _ in
      rw (← slots-inline hv hw, ← part, primary-edited, primary_byte-inline (w s) hw)
      (ap (λ (l : List ℕ). h ++ l) (sym (set-append_left (primary n v) rest s (w s) (rw length-primary inside)))
      ∙ sym (set-behind h (primary n v ++ rest) s (w s))
      ∙ ap (λ (a : ℕ). set (h ++ (primary n v ++ rest)) (a + s) (w s)) L)

  -- ---- both in overflow

  primary-at : get_or (primary n v) s 0 ≡ primary_byte (v s)
  unfolding primary
  primary-at =
      get_or-table (λ (i : ℕ). primary_byte (v i)) 0 0 n s inside ∙ ap (λ (j : ℕ). primary_byte (v j)) (zero-add s)

  primary-stays : 255 ≤ v s → 255 ≤ w s → primary n w ≡ primary n v
  primary-stays hv hw =
      primary-edited
      ∙ ap (set (primary n v) s) (primary_byte-overflow (w s) hw ∙ sym (primary-at ∙ primary_byte-overflow (v s) hv))
      ∙ set-get_or (primary n v) s 0

  -- the parts of a file with the entry of s apart
  apart : (u : ℕ → ℕ) (h r idx : List ℕ) → overflow_part n u ≡ before ++ (overflow_entry u s ++ after)
      → h ++ (r ++ (overflow_part n u ++ idx)) ≡ h ++ (r ++ (before ++ (le 8 s ++ (le 4 (u s) ++ (after ++ idx)))))
  unfolding overflow_entry
  apart u h r idx e =
      ap (λ (l : List ℕ). h ++ (r ++ l))
      (ap (λ (l : List ℕ). l ++ idx) e
      ∙ append_assoc before ((le 8 s ++ le 4 (u s)) ++ after) idx
      ∙ ap (λ (l : List ℕ). before ++ l)
      (append_assoc (le 8 s ++ le 4 (u s)) after idx ∙ append_assoc (le 8 s) (le 4 (u s)) (after ++ idx)))

  pub file-overflow : 255 ≤ v s → 255 ≤ w s
      → file n w ≡ sets (file n v) (40 + n + 12 * overflow_count s v + 8) (le 4 (w s))
  unfolding file overflow_count
  file-overflow hv hw =
      let h : List ℕ = header n (length (overflow_slots n v)) in
      let r : List ℕ = primary n v in
      let idx : List ℕ = index_part (overflow_slots n v) in
      let q : List ℕ = after ++ idx in
      let x : List ℕ = le 4 (w s) in
      let i₁ : ℕ = length (le 8 s) + 0 in
      let i₂ : ℕ = length before + i₁ in
      let i₃ : ℕ = length r + i₂ in
      let place : 40 + n + 12 * overflow_count s v + 8 ≡ length h + i₃ =
      omega (arith, length-header n (length (overflow_slots n v)), length-primary n v, length_before, length-le 8 s) in
      let entry : List ℕ = le 8 s ++ (le 4 (v s) ++ q) in
      let written : sets entry i₁ x ≡ le 8 s ++ (x ++ q) =
      sets_behind (le 8 s) (le 4 (v s) ++ q) 0 x
      ∙ ap (λ (l : List ℕ). le 8 s ++ l)
      (sets_first (le 4 (v s)) q x (length-le 4 (w s) ∙ sym (length-le 4 (v s)))) in
      rw (← slots-overflow hv hw, primary-stays hv hw, apart v h r idx (part-with-v hv), place)
      (apart w h r idx (part-with-w hw)
      ∙ sym
      (sets_behind h (r ++ (before ++ entry)) i₃ x
      ∙ ap (λ (l : List ℕ). h ++ l)
      (sets_behind r (before ++ entry) i₂ x
      ∙ ap (λ (l : List ℕ). r ++ l)
      (sets_behind before entry i₁ x ∙ ap (λ (l : List ℕ). before ++ l) written))))

  -- ---- into and out of overflow

  pub entries-in : v s < 255 → 255 ≤ w s → overflow_part n w
      ≡ take (12 * overflow_count s v) (overflow_part n v)
      ++ (overflow_entry w s ++ drop (12 * overflow_count s v) (overflow_part n v))
  entries-in hv hw =
      let q : ℕ = 12 * overflow_count s v in
      rw (part-without-v hv, take_at before after q length_before, drop_at before after q length_before)
      (part-with-w hw)

  pub entries-out : 255 ≤ v s → w s < 255 → overflow_part n w
      ≡ take (12 * overflow_count s v) (overflow_part n v) ++ drop (12 * overflow_count s v + 12) (overflow_part n v)
  entries-out hv hw =
      let q : ℕ = 12 * overflow_count s v in
      let r : List ℕ = overflow_entry v s ++ after in
      let past : drop (q + 12) (before ++ r) ≡ after =
      sym (drop-drop 12 q (before ++ r))
      ∙ ap (drop 12) (drop_at before r q length_before)
      ∙ drop_at (overflow_entry v s) after 12 (length-overflow_entry v s) in
      rw (part-with-v hv, take_at before r q length_before, past) (part-without-w hw)

  -- those below s, its own, and those above it
  pub count-overflow : 255 ≤ v s → overflow_count n v ≡ overflow_count s v + suc (length (above v))
  unfolding overflow_count
  count-overflow hv =
      ap length (around v) ∙ rw (le-leb 255 (v s) hv) (length-append (overflow_slots s v) (s ∷ above v))

  pub count-inline : v s < 255 → overflow_count n v ≡ overflow_count s v + length (above v)
  unfolding overflow_count
  count-inline hv = ap length (around v) ∙ rw (lt-leb 255 (v s) hv) (length-append (overflow_slots s v) (above v))

  pub count-in : v s < 255 → 255 ≤ w s → overflow_count n w ≡ overflow_count n v + 1
  unfolding overflow_count
  count-in hv hw =
      let old = count-inline hv in
      let new : length (overflow_slots n w) ≡ length (overflow_slots s v) + suc (length (above v)) =
      ap length (around w)
      ∙ rw (le-leb 255 (w s) hw, ← below-same, ← above_same) (length-append (overflow_slots s v) (s ∷ above v)) in
      omega arith

  pub count-below : overflow_count s v ≤ overflow_count n v
  unfolding overflow_count
  count-below =
      omega (
        arith,
        ap length (around v) ∙ length-append (overflow_slots s v) (keep_if (in_overflow (v s)) s (above v)),
      )

  -- in overflow, the entry of s is one of them
  pub count-inside : 255 ≤ v s → overflow_count s v < overflow_count n v
  count-inside hv = omega (arith, count-overflow hv)

  pub below-count : overflow_count s v ≡ overflow_count s w
  unfolding overflow_count
  below-count = ap length below-same
