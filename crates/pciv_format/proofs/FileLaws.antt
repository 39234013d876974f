-- What stands where in the file of (n, v), within the limits, and that it is a checked map which is read as v.
--   file-header      the header's fields
--   file-byte        a slot's primary byte
--   file-slot, -distance    the slot and the distance of an overflow entry
--   file-checked     the file is a checked map
--   file-value       it is read as v
-- Axioms: none.
use mathlib.Core.Path.{◌≡◌, refl, sym, ap, ◌∙◌}
use Prim.Native.Nat.{ℕ, zero, suc, ◌+◌, ◌*◌, ◌≤◌, ◌<◌}
use native.Mathlib.Nat.{zero-add, add_assoc}
use native.Mathlib.Omega.{arith}
use native.Mathlib.Decide.{dec_le}
use mathlib.Core.Bool.{false}
use mathlib.Core.List.{List, [], ◌++◌, append-nil}
use lib.ListN.{get_or, drop, get_or-append}
use lib.Seq.{drop-drop, drop_at, get_or-append-add}
use lib.Dec.{eqb}
use borrow.Author.Tests.{le-leb, lt-leb, eq-eqb, ne_eqb, leb-true}
use Rattle.pciv_bytes.specs.Ranges.{table, joined}
use Rattle.pciv_bytes.specs.LittleEndian.{le, get, number}
use Rattle.pciv_bytes.proofs.RangesLaws.{first_below-lt, length-table, get_or-table}
use Rattle.pciv_bytes.proofs.PositionsLaws.{positions-at, positions-rise, positions-all}
use Rattle.pciv_bytes.proofs.JoinedLaws.{joined-piece}
use Rattle.pciv_bytes.proofs.LittleEndianLaws.{get_in, get_at, number-le}
use Rattle.pciv_format.specs.Layout.{max_slots, max_distance, index_step, index_len, in_overflow}
use Rattle.pciv_format.specs.Layout.{primary_byte, primary, overflow_slots, overflow_count}
use Rattle.pciv_format.specs.Layout.{overflow_entry, overflow_part, index_entry, index_part, header, file}
use Rattle.pciv_format.specs.Parts.{lowest_slot, bad_entry, entry_of, bad_slot, value_of, SoundParts}
use Rattle.pciv_format.specs.Check.{file_parts, bad_index_entry, CheckedHeader, CheckedMap}
use Rattle.pciv_format.proofs.PartsLaws.{primary_byte-overflow, primary_byte-inline, bad_entry-good}
use Rattle.pciv_format.proofs.PartsLaws.{value_of-slot, value_of-inline, and-false}
use Rattle.pciv_format.proofs.LayoutLaws.{index-inside, index_step-le, index_len-le, length-primary}
use Rattle.pciv_format.proofs.LayoutLaws.{length-overflow_entry, length-index_entry, length-header}
use Rattle.pciv_format.proofs.LayoutLaws.{length-overflow_part, length-file, overflow_count-le}

module _ (n : ℕ) (v : ℕ → ℕ) (few : n ≤ max_slots) (each : (i : ℕ) → i < n → v i ≤ max_distance) where
  count_small : overflow_count n v ≤ max_slots
  count_small = omega (arith, overflow_count-le n v)

  -- ---- the overflow slots

  slot-inside : (j : ℕ) → j < overflow_count n v → get_or (overflow_slots n v) j 0 < n
  unfolding overflow_count overflow_slots
  slot-inside j h = omega (arith, (positions-at (λ (i : ℕ). in_overflow (v i)) 0 n j h).high)

  slot-overflows : (j : ℕ) → j < overflow_count n v → 255 ≤ v (get_or (overflow_slots n v) j 0)
  unfolding overflow_count overflow_slots
  slot-overflows j h = leb-true _ _ (positions-at (λ (i : ℕ). in_overflow (v i)) 0 n j h).has

  slot-rise : (j : ℕ) → suc j < overflow_count n v → get_or (overflow_slots n v) j 0 < get_or (overflow_slots n v) (suc j) 0
  unfolding overflow_count overflow_slots
  slot-rise j h = positions-rise (λ (i : ℕ). in_overflow (v i)) 0 n j h

  slot-every : (i : ℕ) → i < n → 255 ≤ v i → (j : ℕ) × (j < overflow_count n v) × (get_or (overflow_slots n v) j 0 ≡ i)
  unfolding overflow_count overflow_slots
  slot-every i h overflows =
      positions-all (λ (i : ℕ). in_overflow (v i)) 0 n i (omega arith) (omega arith) (le-leb 255 (v i) overflows)

  -- ---- the header

  -- what is read in the first 40 bytes is read in the header
  in-header : (at : ℕ) → at + 8 ≤ 40 → get 8 (file n v) at ≡ get 8 (header n (overflow_count n v)) at
  unfolding file
  in-header at h = get_in 8 (header n (overflow_count n v)) _ at (rw length-header h)

  pub file-header : CheckedHeader (file n v) n (overflow_count n v)
  unfolding header le get number
  file-header =
      let c = count_small in
      let s = index_step-le (overflow_count n v) in
      let m = index_len-le (overflow_count n v) in
      record {
        mark = in-header 0 (omega arith);
        n_is = in-header 8 (omega arith) ∙ number-le 8 n (omega arith);
        k_is = in-header 16 (omega arith) ∙ number-le 8 (overflow_count n v) (omega arith);
        m_is = in-header 24 (omega arith) ∙ number-le 8 (index_len (overflow_count n v)) (omega arith);
        step_is = in-header 32 (omega arith) ∙ number-le 8 (index_step (overflow_count n v)) (omega arith);
        small = few;
        few = overflow_count-le n v;
      }

  -- ---- the primary array

  pub file-byte : (i : ℕ) → i < n → get_or (file n v) (40 + i) 0 ≡ primary_byte (v i)
  unfolding file primary header le
  file-byte i h =
      let q : List ℕ = overflow_part n v ++ index_part (overflow_slots n v) in
      get_or-append-add (header n (overflow_count n v)) (primary n v ++ q) i 0
      ∙ get_or-append (primary n v) q 0 i (simp length-table h)
      ∙ get_or-table (λ (i : ℕ). primary_byte (v i)) 0 0 n i h
      ∙ ap (λ (j : ℕ). primary_byte (v j)) (zero-add i)

  -- ---- past the primary array

  drop-primary : (j : ℕ) → drop (40 + n + j) (file n v) ≡ drop j (overflow_part n v ++ index_part (overflow_slots n v))
  unfolding file
  drop-primary j =
      let q : List ℕ = overflow_part n v ++ index_part (overflow_slots n v) in
      let h : List ℕ = header n (overflow_count n v) in
      rw (
        add_assoc 40 n j,
        ← drop-drop (n + j) 40 (h ++ (primary n v ++ q)),
        drop_at h (primary n v ++ q) 40 (length-header n _),
        ← drop-drop j n,
        drop_at (primary n v) q n (length-primary n v),
      )

  file-entry : (j : ℕ) → j < overflow_count n v
      → (q : List ℕ) × (drop (40 + n + 12 * j) (file n v) ≡ overflow_entry v (get_or (overflow_slots n v) j 0) ++ q)
  unfolding overflow_part overflow_count
  file-entry j h = (
    _,
    drop-primary (12 * j) ∙ joined-piece (overflow_entry v) 12 (length-overflow_entry v) (overflow_slots n v) _ j h,
  )

  pub file-slot : (j : ℕ) → j < overflow_count n v → get 8 (file n v) (40 + n + 12 * j) ≡ get_or (overflow_slots n v) j 0
  unfolding overflow_entry le
  file-slot j h =
      let s : ℕ = get_or (overflow_slots n v) j 0 in
      let e = file-entry j h in
      get_at 8 (file n v) (40 + n + 12 * j) s (le 4 (v s) ++ e.0) e.1 (omega (arith, slot-inside j h))

  pub file-distance : (j : ℕ) → j < overflow_count n v
      → get 4 (file n v) (40 + n + 12 * j + 8) ≡ v (get_or (overflow_slots n v) j 0)
  unfolding overflow_entry le
  file-distance j h =
      let s : ℕ = get_or (overflow_slots n v) j 0 in
      let e = file-entry j h in
      get_at 4 (file n v) (40 + n + 12 * j + 8) (v s) e.0
      (sym (drop-drop 8 (40 + n + 12 * j) (file n v)) ∙ ap (drop 8) e.1) (omega (arith, each s (slot-inside j h)))

  file-index_entry : (i : ℕ) → i < index_len (overflow_count n v)
      → (q : List ℕ) × (drop (40 + n + 12 * overflow_count n v + 16 * i) (file n v)
      ≡ index_entry (overflow_slots n v) (index_step (overflow_count n v)) i ++ q)
  unfolding index_part overflow_count
  file-index_entry i h =
      let c : ℕ = overflow_count n v in
      let g : ℕ → List ℕ = index_entry (overflow_slots n v) (index_step c) in
      let r : List ℕ = table (λ (i : ℕ). i) 0 (index_len c) in
      let e : get_or r i 0 ≡ i = get_or-table (λ (i : ℕ). i) 0 0 (index_len c) i h ∙ zero-add i in (
        _,
        ap (λ (a : ℕ). drop a (file n v)) (add_assoc (40 + n) (12 * c) (16 * i))
            ∙ drop-primary (12 * c + 16 * i)
            ∙ sym (drop-drop (16 * i) (12 * c) _)
            ∙ ap (drop (16 * i)) (drop_at (overflow_part n v) _ (12 * c) (length-overflow_part n v))
            ∙ ap (drop (16 * i)) (sym (append-nil (joined g r)))
            ∙ joined-piece g 16 (length-index_entry (overflow_slots n v) (index_step c)) r [] i (rw length-table h)
            ∙ ap (λ (j : ℕ). g j ++ (joined g (drop (suc i) r) ++ [])) e,
      )

  -- ---- no refusal 6, 7 or 8

  lowest : (j : ℕ) → j < overflow_count n v
      → lowest_slot (file_parts (file n v) n (overflow_count n v)) j ≤ get_or (overflow_slots n v) j 0
  lowest zero h = omega arith
  lowest (suc j) h = rw (file-slot j (omega arith)) (omega (arith, slot-rise j h))

  entry-right : (j : ℕ) → j < overflow_count n v → bad_entry (file_parts (file n v) n (overflow_count n v)) j ≡ false
  entry-right j h =
      let s : ℕ = get_or (overflow_slots n v) j 0 in
      let e = file-slot j h in
      bad_entry-good (file_parts (file n v) n (overflow_count n v)) j
      (record {
        inside = omega (arith, e, slot-inside j h);
        above = omega (arith, e, lowest j h);
        overflows = omega (arith, file-distance j h, slot-overflows j h);
        marked = ap (λ (i : ℕ). get_or (file n v) (40 + i) 0) e
            ∙ file-byte s (slot-inside j h)
            ∙ primary_byte-overflow (v s) (slot-overflows j h);
      })

  entry-exists : (i : ℕ) → i < n → 255 ≤ v i
      → entry_of (file_parts (file n v) n (overflow_count n v)) i < overflow_count n v
  unfolding entry_of
  entry-exists i h overflows =
      let a = slot-every i h overflows in
      first_below-lt (λ (j : ℕ). eqb (get 8 (file n v) (40 + n + 12 * j)) i) (overflow_count n v) a.0 a.1
      (eq-eqb _ _ (file-slot a.0 a.1 ∙ a.2))

  slot-right : (i : ℕ) → i < n → bad_slot (file_parts (file n v) n (overflow_count n v)) i ≡ false
  unfolding bad_slot
  slot-right i h =
      elim (dec_le 255 (v i)) [
        | yes overflows ↦ rw (lt-leb (overflow_count n v) _ (entry-exists i h overflows))
            (and-false (eqb (get_or (file n v) (40 + i) 0) 255))
        | no inline ↦ rw (file-byte i h, primary_byte-inline (v i) (omega arith), ne_eqb (v i) 255 (λ q. omega arith))
      ]

  index-right : (i : ℕ) → i < index_len (overflow_count n v) → bad_index_entry (file n v) n (overflow_count n v) i ≡ false
  unfolding bad_index_entry index_entry le
  index-right i h =
      let c : ℕ = overflow_count n v in
      let t : ℕ = i * index_step c in
      let lt : t < c = index-inside c i h in
      let s : ℕ = get_or (overflow_slots n v) t 0 in
      let e = file-index_entry i h in
      let X : ℕ = 40 + n + 12 * c + 16 * i in
      let g₁ : get 8 (file n v) X ≡ s =
      get_at 8 (file n v) X s (le 8 t ++ e.0) e.1 (omega (arith, slot-inside t lt)) in
      let next : drop (X + 8) (file n v) ≡ le 8 t ++ e.0 =
      sym (drop-drop 8 X (file n v)) ∙ ap (drop 8) e.1 in
      let g₂ : get 8 (file n v) (X + 8) ≡ t =
      get_at 8 (file n v) (X + 8) t e.0 next (omega (arith, count_small)) in
      rw (g₁, g₂, file-slot t lt, eq-eqb s s refl, eq-eqb t t refl)

  pub file-checked : CheckedMap (file n v) n (overflow_count n v)
  file-checked =
      record {
        header = file-header;
        fits = omega (arith, length-file n v);
        parts = record { entries = entry-right; slots = slot-right };
        index = index-right;
      }

  -- the file is read as the distances that it was made of
  pub file-value : (i : ℕ) → i < n → value_of (file_parts (file n v) n (overflow_count n v)) i ≡ v i
  file-value i h =
      let P = file_parts (file n v) n (overflow_count n v) in
      let s : SoundParts P = record { entries = entry-right; slots = slot-right } in
      elim (dec_le 255 (v i)) [
        | yes overflows ↦ (let a = slot-every i h overflows in
            let e : get 8 (file n v) (40 + n + 12 * a.0) ≡ i = file-slot a.0 a.1 ∙ a.2 in
            ap (value_of P) (sym e) ∙ value_of-slot P s a.0 a.1 ∙ file-distance a.0 a.1 ∙ ap v a.2)
        | no inline ↦ (let e : get_or (file n v) (40 + i) 0 ≡ v i =
            file-byte i h ∙ primary_byte-inline (v i) (omega arith) in
            value_of-inline P s i (omega (arith, e)) ∙ e)
      ]
