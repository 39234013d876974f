-- What the list of a repair says of every place, and that the rebuilt file is b with these changes.
--   field_told, dropped-told, set_told, index-told    of a header field, an entry, a byte, and the index
--   left-kept                 the entries that the list does not drop are those that are kept
--   CorrectionsComplete, corrections-complete    every part of the rebuilt file is that of b, or what the list says
--   corrections-apply         b with the changes of the list is the rebuilt file
-- Axioms: none.
use mathlib.Core.Path.{◌≡◌, refl, sym, ap, ap₂, ◌∙◌}
use Prim.Native.Nat.{ℕ, ◌+◌, ◌*◌, ◌<◌}
use native.Mathlib.Omega.{arith}
use mathlib.Core.Bool.{Bool, true, false, not, cond}
use mathlib.Core.List.{List, ◌++◌, map}
use lib.ListN.{length, take, drop}
use lib.Dec.{eqb}
use borrow.Author.Tests.{eqb-true, not-false}
use Rattle.pciv_bytes.specs.Ranges.{joined, positions}
use Rattle.pciv_bytes.specs.LittleEndian.{le, Bytes}
use Rattle.pciv_bytes.specs.ByteAt.{byte_at}
use Rattle.pciv_bytes.proofs.RangesLaws.{table-cong}
use Rattle.pciv_bytes.proofs.PositionsLaws.{positions-cong}
use Rattle.pciv_format.specs.Layout.{primary, overflow_count, overflow_part, index_part, header, file}
use Rattle.pciv_format.specs.Check.{k_field, file_parts}
use Rattle.pciv_repair_file.specs.Repaired.{is_kept, kept_entries, is_set, repaired_parts, repaired_at, repaired_file}
use Rattle.pciv_repair_file.specs.Repaired.{bytes_after, rebuilt_index, same, PartsGiven}
use Rattle.pciv_repair_file.proofs.SameLaws.{same_true}
use Rattle.pciv_repair_file.proofs.WholeLaws.{kept-slots}
use Rattle.pciv_repair_file.proofs.RepairedLaws.{repaired-primary, repaired-le}
use Rattle.pciv_repair.specs.Repair.{field_at, field_of, Correction, field_line, other_field, dropped_line, set_line}
use Rattle.pciv_repair.specs.Repair.{index_line, field_lines, dropped_lines, set_lines, index_lines, corrections}
use Rattle.pciv_repair.specs.Applied.{has_line, new_in, entry_bytes, entries_left, new_header, new_primary}
use Rattle.pciv_repair.specs.Applied.{new_entries, new_index, applied}
use Rattle.pciv_repair.proofs.RebuiltLaws.{rebuilt-byte, rebuilt-overflow, rebuilt-entries, rebuilt-index}
use Rattle.pciv_repair.proofs.FieldLaws.{field_at-rises, file-fields}
use Rattle.pciv_repair.proofs.AppliedLaws.{Tells, tells-right, tells-left, tells-kind, tells_at}
use Rattle.pciv_repair.proofs.AppliedLaws.{tells-only, tells-other}

-- ---- tests

not-not : (b : Bool) → not (not b) ≡ b
not-not true = refl
not-not false = refl

other-new : (x y : ℕ) → cond (not (eqb x y)) y x ≡ y
other-new x y = go (eqb x y) refl
  where
    go : (t : Bool) → eqb x y ≡ t → cond (not t) y x ≡ y
    go true e = eqb-true x y e
    go false e = refl

-- ---- what the list says of each place

module _ (b : List ℕ) (n k : ℕ) where
  abbrev f : List ℕ
  f = repaired_file b n k

  abbrev cs : List Correction
  cs = corrections b n k

  -- ---- no other kind

  fields-other : (kind place : ℕ) → (1 ≡ kind → ⊥) → Tells (field_lines b n k) kind place false 0
  fields-other kind place other =
      tells-kind (field_line b f) 1 (λ j. refl) kind place 0 other (positions (other_field b f) 0 6)

  dropped-other : (kind place : ℕ) → (2 ≡ kind → ⊥) → Tells (dropped_lines b n k) kind place false 0
  dropped-other kind place other =
      tells-kind (dropped_line b n k) 2 (λ j. refl) kind place 0 other
      (positions (λ (j : ℕ). not (is_kept (file_parts b n k) j)) 0 k)

  set_other : (kind place : ℕ) → (3 ≡ kind → ⊥) → Tells (set_lines b n k) kind place false 0
  set_other kind place other =
      tells-kind set_line 3 (λ j. refl) kind place 0 other (positions (is_set (file_parts b n k)) 0 n)

  index-other : (kind place : ℕ) → (4 ≡ kind → ⊥) → Tells (index_lines b n k) kind place false 0
  index-other kind place other =
      tells-other (index_line (length (bytes_after b n k)) (length (rebuilt_index b n k))) kind place 0 other
      (same (bytes_after b n k) (rebuilt_index b n k))

  -- ---- what is told of each place

  pub field_told : (i : ℕ) → i < 6
      → Tells (corrections b n k) 1 (field_at i) (other_field b (repaired_file b n k) i) (field_of (repaired_file b n k) i)
  unfolding corrections
  field_told i h =
      tells-left
      (tells_at (field_line b f) 1 (λ j. refl) field_at-rises (other_field b f) 6 0 i (omega arith) (omega arith))
      (tells-right (dropped-other 1 (field_at i) (λ q. omega arith))
      (tells-right (set_other 1 (field_at i) (λ q. omega arith)) (index-other 1 (field_at i) (λ q. omega arith))))

  pub dropped-told : (j : ℕ) → j < k → Tells (corrections b n k) 2 j (not (is_kept (file_parts b n k) j)) 0
  unfolding corrections
  dropped-told j h =
      tells-right (fields-other 2 j (λ q. omega arith))
      (tells-left
      (tells_at (dropped_line b n k) 2 (λ j. refl) (λ j t h. h) (λ (j : ℕ). not (is_kept (file_parts b n k) j)) k 0 j
      (omega arith) (omega arith))
      (tells-right (set_other 2 j (λ q. omega arith)) (index-other 2 j (λ q. omega arith))))

  pub set_told : (i : ℕ) → i < n → Tells (corrections b n k) 3 i (is_set (file_parts b n k) i) 254
  unfolding corrections
  set_told i h =
      tells-right (fields-other 3 i (λ q. omega arith))
      (tells-right (dropped-other 3 i (λ q. omega arith))
      (tells-left
      (tells_at set_line 3 (λ j. refl) (λ j t h. h) (is_set (file_parts b n k)) n 0 i (omega arith) (omega arith))
      (index-other 3 i (λ q. omega arith))))

  pub index-told : Tells (corrections b n k) 4 0 (not (same (bytes_after b n k) (rebuilt_index b n k)))
      (length (rebuilt_index b n k))
  unfolding corrections
  index-told =
      tells-right (fields-other 4 0 (λ q. omega arith))
      (tells-right (dropped-other 4 0 (λ q. omega arith))
      (tells-right (set_other 4 0 (λ q. omega arith))
      (tells-only (index_line (length (bytes_after b n k)) (length (rebuilt_index b n k))) 4 0 refl refl
      (same (bytes_after b n k) (rebuilt_index b n k)))))

  -- the entries that the list does not drop
  pub left-kept : entries_left k (corrections b n k) ≡ kept_entries (file_parts b n k)
  unfolding kept_entries
  left-kept =
      positions-cong (λ (j : ℕ). not (has_line cs 2 j)) (is_kept (file_parts b n k)) 0 k
      (λ j h₁ h₂. ap not (dropped-told j (omega arith)).has ∙ not-not (is_kept (file_parts b n k) j))

-- ---- every part of the rebuilt file

-- it is b's, but for what the list says: header fields, primary bytes, overflow entries, index
pub record CorrectionsComplete (b : List ℕ) (n k : ℕ) : Type 0 where
  pub fields : (i : ℕ) → i < 6
      → field_of (repaired_file b n k) i ≡ new_in (corrections b n k) 1 (field_at i) (field_of b i)
  pub bytes : (i : ℕ) → i < n
      → byte_at (repaired_file b n k) (40 + i) ≡ new_in (corrections b n k) 3 i (byte_at b (40 + i))
  pub entries : take (12 * k_field (repaired_file b n k)) (drop (40 + n) (repaired_file b n k))
      ≡ joined (λ (j : ℕ). take 12 (drop (40 + n + 12 * j) b))
      (positions (λ (j : ℕ). not (has_line (corrections b n k) 2 j)) 0 k)
  pub index : has_line (corrections b n k) 4 0 ≡ false
      → drop (40 + n + 12 * k_field (repaired_file b n k)) (repaired_file b n k) ≡ bytes_after b n k

module _ (b : List ℕ) (n k : ℕ) (bytes : Bytes b) (given : PartsGiven b n k) where
  index_kept : has_line (corrections b n k) 4 0 ≡ false → rebuilt_index b n k ≡ bytes_after b n k
  index_kept none =
      let told : not (same (bytes_after b n k) (rebuilt_index b n k)) ≡ false = sym (index-told b n k).has ∙ none in
      sym (same_true (bytes_after b n k) (rebuilt_index b n k) (not-false _ told))

  -- nothing else of b has changed
  pub corrections-complete : CorrectionsComplete b n k
  corrections-complete =
      record {
        fields = λ i h.
            sym ((field_told b n k i h).number (field_of b i) ∙ other-new (field_of b i) (field_of (repaired_file b n k) i));
        bytes = λ i h. rebuilt-byte b n k bytes given i h ∙ sym ((set_told b n k i h).number (byte_at b (40 + i)));
        entries = rebuilt-entries b n k bytes given ∙ ap (joined (entry_bytes b n)) (sym (left-kept b n k));
        index = λ none. rebuilt-index b n k bytes given ∙ index_kept none;
      }

  -- ---- the list alone makes the rebuilt file

  apply-header : new_header b (corrections b n k) ≡ header n (overflow_count n (repaired_at b n k))
  unfolding new_header header le
  apply-header =
      let c = corrections-complete.fields in
      let h = file-fields n (repaired_at b n k) given.small (repaired-le b n k bytes) in
      rw (
        ← c 0 (omega arith),
        ← c 1 (omega arith),
        ← c 2 (omega arith),
        ← c 3 (omega arith),
        ← c 4 (omega arith),
        ← c 5 (omega arith),
        h.mark,
        h.zeros,
        h.n_is,
        h.k_is,
        h.m_is,
        h.step_is,
      )

  apply-primary : new_primary b n (corrections b n k) ≡ primary n (repaired_at b n k)
  unfolding new_primary
  apply-primary =
      table-cong (λ (i : ℕ). new_in (corrections b n k) 3 i (byte_at b (40 + i)))
      (repaired_parts (file_parts b n k)).byte 0 n
      (λ i h. (set_told b n k i (omega arith)).number (byte_at b (40 + i)))
      ∙ sym (repaired-primary b n k bytes)

  apply-entries : new_entries b n k (corrections b n k) ≡ overflow_part n (repaired_at b n k)
  unfolding new_entries
  apply-entries = ap (joined (entry_bytes b n)) (left-kept b n k) ∙ sym (rebuilt-overflow b n k bytes given)

  apply-index : new_index b n k (corrections b n k) ≡ rebuilt_index b n k
  unfolding new_index
  apply-index = go (has_line (corrections b n k) 4 0) refl
    where
      go : (t : Bool) → has_line (corrections b n k) 4 0 ≡ t
          → cond t (index_part (map (file_parts b n k).slot (entries_left k (corrections b n k)))) (bytes_after b n k)
          ≡ rebuilt_index b n k
      go true e =
          ap index_part (ap (map (file_parts b n k).slot) (left-kept b n k) ∙ sym (kept-slots b n k bytes))
      go false e = sym (index_kept e)

  -- who has b, n, k and the list has the rebuilt file
  pub corrections-apply : applied b n k (corrections b n k) ≡ repaired_file b n k
  unfolding applied file
  corrections-apply =
      let j : List ℕ → List ℕ → List ℕ = λ x y. x ++ y in
      ap₂ j apply-header (ap₂ j apply-primary (ap₂ j apply-entries apply-index))
