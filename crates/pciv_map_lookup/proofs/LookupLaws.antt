-- Laws of the overflow entries below a slot, and of the two tables of a checked map that a lookup searches.
--   entries_below-past               past the last slot they are all entries
--   value_of-entry                   a slot in overflow has its entry, and its distance, at `entries_below`
--   located-inline, located-entry   so what is located at a slot: its byte, or that entry
--   entries_below-count              as many slots below are in overflow
--   entries-table, index-table      the overflow entries and the index are sorted by their slots
--   entries_below-part, index-block  the index names a part of the entries, and a search there finds the entry
-- Axioms: none.
use mathlib.Core.Path.{◌≡◌, sym, ap, ◌∙◌}
use mathlib.Core.Bool.{Bool}
use mathlib.Core.List.{List, ◌++◌}
use Prim.Native.Nat.{ℕ, ◌+◌, ◌-◌, ◌*◌, ◌^◌, ◌≤◌, ◌<◌}
use native.Mathlib.Nat.{le_refl, zero-add}
use native.Mathlib.Omega.{arith}
use lib.ListN.{length, get_or, length-append, get_or-append}
use lib.Seq.{get_or-append-add}
use Rattle.pciv_bytes.specs.Ranges.{table, positions}
use Rattle.pciv_bytes.specs.LittleEndian.{get}
use Rattle.pciv_bytes.proofs.RangesLaws.{length-table, get_or-table}
use Rattle.pciv_bytes.proofs.PositionsLaws.{positions-at, positions-append}
use Rattle.pciv_format.specs.Layout.{index_step, index_len, in_overflow, overflow_slots, overflow_count}
use Rattle.pciv_format.specs.Parts.{Parts, entry_of, value_of, SoundParts}
use Rattle.pciv_format.specs.Check.{m_field, step_field, file_parts, bad_index_entry, CheckedMap}
use Rattle.pciv_format.specs.Read.{located}
use Rattle.pciv_format.specs.declared.Origin.TheVariants.{Inline, Overflow}
use Rattle.pciv_format.proofs.PartsLaws.{or-false, not_eqb, entry-good, slots-rise, slot-entry}
use Rattle.pciv_format.proofs.PartsLaws.{entry_of-slot, entry_of-inline, value_of-slot, value_of-inline, overflow_slots-are}
use Rattle.pciv_format.proofs.OriginLaws.{origin_of-entry, origin_of-none}
use Rattle.pciv_format.proofs.LayoutLaws.{index-inside}
use Rattle.pciv_format.proofs.CheckLaws.{checked-length}
use Rattle.pciv_map_lookup.specs.Lookup.{lower_bound, entries_below, block_start, block_end, key_at, Sorted}
use Rattle.pciv_map_lookup.specs.Lookup.{KeyTable}
use Rattle.pciv_format.proofs.EntryLaws.{slots-sorted}
use Rattle.pciv_map_lookup.proofs.SearchLaws.{Between, lower_bound-is, between-part, Sample}
use Rattle.pciv_map_lookup.proofs.SearchLaws.{sample-sorted, block-between}

-- ---- the entry of a slot

module _ (P : Parts) (sound : SoundParts P) where
  -- past the last slot every entry is smaller
  pub entries_below-past : (i : ℕ) → P.n ≤ i → entries_below P i ≡ P.k
  entries_below-past i h =
      lower_bound-is P.slot i P.k P.k (le_refl P.k)
      (λ j hj. omega (arith, (entry-good P sound j hj).inside)) (λ j h₁ h₂. absurd (omega arith))

  -- as many entries stand before entry j
  entries_below-slot : (j : ℕ) → j < P.k → entries_below P (P.slot j) ≡ j
  entries_below-slot j h =
      lower_bound-is P.slot (P.slot j) P.k j (omega arith) (λ t ht. slots-rise P sound t j ht h)
      (λ t ht hk. slots-sorted P sound j t ht hk)

  -- a slot with byte 255 has its entry there
  pub value_of-entry : (i : ℕ) → i < P.n → P.byte i ≡ 255
      → (entries_below P i < P.k) × (value_of P i ≡ P.distance (entries_below P i)) × (entry_of P i ≡ entries_below P i)
  value_of-entry i h e =
      let q = slot-entry P sound i h e in
      let at : entries_below P i ≡ q.0 = ap (entries_below P) (sym q.2) ∙ entries_below-slot q.0 q.1 in (
        omega (arith, q.1),
        rw at (ap (value_of P) (sym q.2) ∙ value_of-slot P sound q.0 q.1),
        rw at (ap (entry_of P) (sym q.2) ∙ entry_of-slot P sound q.0 q.1),
      )

  pub located-inline : (i : ℕ) → P.byte i < 255
      → located (value_of P i) P.k (entry_of P i) ≡ record { distance = P.byte i; origin = Inline }
  located-inline i small =
      rw (value_of-inline P sound i small, entry_of-inline P sound i small, origin_of-none P.k P.k (le_refl P.k))

  pub located-entry : (i : ℕ) → i < P.n → P.byte i ≡ 255 → (j : ℕ) → j ≡ entries_below P i
      → located (value_of P i) P.k (entry_of P i) ≡ record { distance = P.distance j; origin = Overflow j }
  located-entry i h e j is =
      let v = value_of-entry i h e in
      rw (v.1, v.2, is, origin_of-entry P.k (entries_below P i) v.0)

  -- they are the slots in overflow below i
  pub entries_below-count : ((i : ℕ) → P.byte i < 256) → (i : ℕ) → i ≤ P.n
      → entries_below P i ≡ overflow_count i (value_of P)
  unfolding overflow_count overflow_slots
  entries_below-count bytes i h =
      let p : ℕ → Bool = λ s. in_overflow (value_of P s) in
      let low : List ℕ = positions p 0 i in
      let high : List ℕ = positions p i (P.n - i) in
      let all : table P.slot 0 P.k ≡ low ++ high =
      sym (overflow_slots-are P sound bytes)
      ∙ ap (positions p 0) (let e : P.n ≡ i + (P.n - i) = omega arith in e)
      ∙ positions-append p 0 i (P.n - i)
      ∙ ap (λ (s : ℕ). low ++ positions p s (P.n - i)) (zero-add i) in
      let count : P.k ≡ length low + length high =
      sym (length-table P.slot 0 P.k) ∙ ap length all ∙ length-append low high in
      let slot_is : (j : ℕ) → j < P.k → P.slot j ≡ get_or (low ++ high) j 0 =
      λ j hj.
      sym
      (ap (λ (l : List ℕ). get_or l j 0) (sym all)
      ∙ get_or-table P.slot 0 0 P.k j hj
      ∙ ap P.slot (zero-add j)) in
      lower_bound-is P.slot i P.k (length low) (omega arith)
      (λ j hj.
      omega (arith, slot_is j (omega arith), get_or-append low high 0 j hj, (positions-at p 0 i j hj).high))
      (λ j hj hk.
      (let e : length low + (j - length low) ≡ j = omega arith in
      omega (
        arith,
        slot_is j hk,
        ap (λ (t : ℕ). get_or (low ++ high) t 0) e,
        get_or-append-add low high (j - length low) 0,
        (positions-at p i (P.n - i) (j - length low) (omega arith)).low,
      )))

-- ---- the two tables of a checked map

module _ (b : List ℕ) (n k : ℕ) (map : CheckedMap b n k) where
  inside : 40 + n + 12 * k + 16 * index_len k ≤ length b
  inside = checked-length b n k map

  entries_sorted : Sorted (file_parts b n k).slot k
  entries_sorted = slots-sorted (file_parts b n k) map.parts

  slot_small : (j : ℕ) → j < k → (file_parts b n k).slot j < 2 ^ 63
  slot_small j h = omega (arith, (entry-good (file_parts b n k) map.parts j h).inside, map.header.small)

  -- entry j after entry lo
  entry_key : (lo j : ℕ) → key_at b (40 + n + 12 * lo) 12 j ≡ (file_parts b n k).slot (lo + j)
  entry_key lo j = ap (get 8 b) (omega arith)

  -- the overflow entries from lo to hi
  pub entries-table : (lo hi : ℕ) → lo ≤ hi → hi ≤ k → KeyTable b (40 + n + 12 * lo) 12 (hi - lo)
  entries-table lo hi h₁ h₂ =
      record {
        apart = omega arith;
        inside = omega (arith, inside);
        sorted = λ i j h hj.
            (let rise = entries_sorted (lo + i) (lo + j) (omega arith) (omega arith) in
            omega (arith, entry_key lo i, entry_key lo j));
        small = λ j hj. omega (arith, entry_key lo j, slot_small (lo + j) (omega arith));
      }

  pub entries_below-part : (slot lo hi : ℕ) → Between (file_parts b n k).slot slot k lo hi
      → lo + lower_bound (key_at b (40 + n + 12 * lo) 12) slot (hi - lo) ≡ entries_below (file_parts b n k) slot
  entries_below-part slot lo hi w =
      between-part (file_parts b n k).slot slot k entries_sorted lo hi w _ (λ j h. entry_key lo j)

  -- the index, with the m and the step of the header
  module _ (m step : ℕ) (m_is : m ≡ m_field b) (step_is : step ≡ step_field b) where
    counts : (m ≡ index_len k) × (step ≡ index_step k)
    counts = (m_is ∙ map.header.m_is, step_is ∙ map.header.step_is)

    index_key : (i : ℕ) → i < m → key_at b (40 + n + 12 * k) 16 i ≡ (file_parts b n k).slot (i * step)
    unfolding bad_index_entry
    index_key i h = rw counts.1 (not_eqb _ _ (or-false _ _ (map.index i (omega (arith, counts.0)))).0)

    index-points : (i : ℕ) → i < m → i * step < k
    index-points i h = rw counts.1 (index-inside k i (omega (arith, counts.0)))

    index-sample : Sample (file_parts b n k).slot k (key_at b (40 + n + 12 * k) 16) m step
    index-sample = record { sorted = entries_sorted; same = index_key; inside = index-points }

    pub index-table : KeyTable b (40 + n + 12 * k) 16 m
    index-table =
        record {
          apart = omega arith;
          inside = omega (arith, inside, counts.0);
          sorted = sample-sorted _ k _ m step index-sample;
          small = λ i h. omega (arith, index_key i h, slot_small (i * step) (index-points i h));
        }

    pub index-block : (slot i : ℕ) → i ≡ lower_bound (key_at b (40 + n + 12 * k) 16) slot m
        → Between (file_parts b n k).slot slot k (block_start i step) (block_end i m step k)
    index-block = block-between _ k _ m step index-sample
