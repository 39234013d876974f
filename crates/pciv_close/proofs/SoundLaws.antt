-- The file of sound parts: its primary array is the bytes, and its overflow part the entries in their order.
--   overflow_part-is              its overflow part, for any sound parts
--   primary-close, overflow_part-close, overflow_count-close
--                                these, for the parts that close is given
--   entries-start, -more, -end   writing them: before the first entry, one entry on, after the last
-- Axioms: none.
use mathlib.Core.Path.{◌≡◌, refl, sym, ap, ap₂, ◌∙◌}
use Prim.Native.Nat.{ℕ, zero, suc, ◌+◌, ◌-◌, ◌*◌, max, ◌≤◌, ◌<◌}
use native.Mathlib.Nat.{add-zero, sub-zero, max-eq_left}
use native.Mathlib.Omega.{arith}
use mathlib.Core.List.{List, ◌++◌}
use lib.ListN.{length}
use lib.Seq.{sets, length-sets}
use Rattle.pciv_bytes.specs.Ranges.{table, joined}
use Rattle.pciv_bytes.specs.LittleEndian.{le, Bytes}
use Rattle.pciv_bytes.proofs.RangesLaws.{table-rest, table_done}
use Rattle.pciv_bytes.proofs.WriteLaws.{sets-append}
use Rattle.pciv_format.specs.Layout.{at, primary, overflow_count, overflow_entry, overflow_part}
use Rattle.pciv_format.specs.Parts.{Parts, value_of, SoundParts}
use Rattle.pciv_format.specs.Write.{close_parts}
use Rattle.pciv_format.proofs.PartsLaws.{value_of-slot, primary_byte-value_of, overflow_slots-are, overflow_count-is}
use Rattle.pciv_format.proofs.PrimaryLaws.{primary-is}
use Rattle.pciv_close.specs.Close.{entries_from, EntriesLeft}
use Rattle.pciv_close.proofs.CloseLaws.{slot_is, lengths-same}

-- ---- the parts of the file

-- the entries of some slots, whose distances are v
joined-entries : (v slot distance : ℕ → ℕ) (c i : ℕ) → ((j : ℕ) → i ≤ j → j < i + c → v (slot j) ≡ distance j)
    → joined (overflow_entry v) (table slot i c) ≡ entries_from slot distance i c
unfolding joined table overflow_entry entries_from
joined-entries v slot distance zero i same = refl
joined-entries v slot distance (suc c) i same =
    ap₂ (λ (x : ℕ) (rest : List ℕ). (le 8 (slot i) ++ le 4 x) ++ rest) (same i (omega arith) (omega arith))
    (joined-entries v slot distance c (suc i) (λ j h₁ h₂. same j (omega arith) (omega arith)))

entries_from-cong : (slot slot' distance : ℕ → ℕ) (c i : ℕ) → ((j : ℕ) → i ≤ j → j < i + c → slot j ≡ slot' j)
    → entries_from slot distance i c ≡ entries_from slot' distance i c
unfolding joined table entries_from
entries_from-cong slot slot' distance zero i same = refl
entries_from-cong slot slot' distance (suc c) i same =
    ap₂ (λ (x : ℕ) (rest : List ℕ). (le 8 x ++ le 4 (distance i)) ++ rest) (same i (omega arith) (omega arith))
    (entries_from-cong slot slot' distance c (suc i) (λ j h₁ h₂. same j (omega arith) (omega arith)))

module _ (P : Parts) (sound : SoundParts P) (bytes : (i : ℕ) → P.byte i < 256) where
  pub overflow_part-is : overflow_part P.n (value_of P) ≡ entries_from P.slot P.distance 0 P.k
  unfolding overflow_part
  overflow_part-is =
      ap (joined (overflow_entry (value_of P))) (overflow_slots-are P sound bytes)
      ∙ joined-entries (value_of P) P.slot P.distance P.k 0 (λ j h₁ h₂. value_of-slot P sound j (omega arith))

module _ (bytes slots distances : List ℕ) (sound : SoundParts (close_parts bytes slots distances))
    (each : Bytes bytes) where
  k-is : max (length slots) (length distances) ≡ length slots
  k-is = max-eq_left (omega (arith, lengths-same bytes slots distances sound.entries))

  pub primary-close : primary (length bytes) (value_of (close_parts bytes slots distances)) ≡ bytes
  primary-close =
      primary-is (length bytes) (value_of (close_parts bytes slots distances)) bytes refl
      (primary_byte-value_of (close_parts bytes slots distances) sound each)

  pub overflow_part-close : overflow_part (length bytes) (value_of (close_parts bytes slots distances))
      ≡ entries_from (at slots) (at distances) 0 (length slots)
  overflow_part-close =
      overflow_part-is (close_parts bytes slots distances) sound each
      ∙ ap (entries_from (close_parts bytes slots distances).slot (at distances) 0) k-is
      ∙ entries_from-cong (close_parts bytes slots distances).slot (at slots) (at distances) (length slots) 0
      (λ j h₁ h₂. slot_is bytes slots distances j (omega arith))

  pub overflow_count-close : length slots ≡ overflow_count (length bytes) (value_of (close_parts bytes slots distances))
  overflow_count-close = sym (overflow_count-is (close_parts bytes slots distances) sound each ∙ k-is)

-- ---- a loop that writes the entries

module _ (slot distance : ℕ → ℕ) (k start : ℕ) (d₀ : List ℕ) where
  pub entries-start : EntriesLeft slot distance k start d₀ 0 d₀
  entries-start = record { size = refl; rest = rw (add-zero, sub-zero) }

  module _ (j : ℕ) (d : List ℕ) (e : EntriesLeft slot distance k start d₀ j d) where
    pub entries-more : j < k → (d' : List ℕ) → d' ≡ sets d (start + 12 * j) (le 8 (slot j) ++ le 4 (distance j))
        → EntriesLeft slot distance k start d₀ (j + 1) d'
    unfolding entries_from joined le
    entries-more h d' put =
        let piece : List ℕ = le 8 (slot j) ++ le 4 (distance j) in
        let next : start + 12 * j + 12 ≡ start + 12 * (j + 1) = omega arith in
        record {
          size = ap length put ∙ length-sets d (start + 12 * j) piece ∙ e.size;
          rest = e.rest
              ∙ rw (table-rest (λ (i : ℕ). i) k j h, put, ← next)
              (sets-append piece (entries_from slot distance (j + 1) (k - (j + 1))) d (start + 12 * j));
        }

    pub entries-end : k ≤ j → d ≡ sets d₀ start (entries_from slot distance 0 k)
    unfolding entries_from joined
    entries-end h = sym (e.rest ∙ rw (table_done (λ (i : ℕ). i) k j h))
