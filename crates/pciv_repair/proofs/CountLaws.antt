-- How many changes there are, and the list of them by the file that was written.
--   dropped-count, set-count    the entries dropped, and the bytes set
--   lines-total, lines-count, lines-few    all changes, kind by kind; how many they are at most
--   fields-same                 changes of header fields, by any bytes that begin with the rebuilt header
--   Begins g, header-begins, file-begins    such bytes: the header alone, and the rebuilt file with more behind it
--   was_set-is                   a byte was set where it is 255 no more
--   set-none                    no byte is set where each byte 255 has a kept entry
--   rebuilt-long                the rebuilt file has all primary bytes
--   index-none, index-one       no line about the index, or one
--   length-field_lines, length-dropped_lines    how many there are of two kinds
--   numbers_of-append, length-numbers_of, no-numbers, one_number    changes as numbers
--   two-lists                   changes written behind others
--   all_lines                   the four kinds, written one after another
-- Axioms: none.
use mathlib.Core.Path.{◌≡◌, refl, sym, ap, ap₂, ◌∙◌}
use Prim.Native.Nat.{ℕ, suc, ◌+◌, ◌*◌, ◌≤◌, ◌<◌}
use native.Mathlib.Nat.{add-zero, zero-add}
use native.Mathlib.Omega.{arith}
use native.Mathlib.Decide.{dec_le}
use mathlib.Core.Bool.{Bool, true, false, not, cond, ◌&&◌}
use mathlib.Core.List.{List, [], ◌∷◌, ◌++◌, map, append_assoc, append-nil}
use lib.ListN.{length, get_or, drop, length-append, length-map, get_or-append}
use lib.Seq.{sets}
use lib.Dec.{eqb}
use borrow.Author.Tests.{lt-ltb, le-ltb}
use Rattle.pciv_bytes.specs.Ranges.{flag, positions}
use Rattle.pciv_bytes.specs.LittleEndian.{Bytes}
use Rattle.pciv_bytes.specs.ByteAt.{byte_at}
use Rattle.pciv_bytes.proofs.RangesLaws.{flag-not, flag-le}
use Rattle.pciv_bytes.proofs.PositionsLaws.{positions-at, positions-count, positions-cong}
use Rattle.pciv_bytes.proofs.SumLaws.{sum_from-rest, sum_from-plus}
use Rattle.pciv_bytes.proofs.LittleEndianLaws.{get_in}
use Rattle.pciv_bytes.proofs.WriteLaws.{sets-append, sets-front}
use Rattle.pciv_format.specs.Layout.{in_overflow, primary_byte, primary, overflow_slots, overflow_count, overflow_part}
use Rattle.pciv_format.specs.Layout.{index_part, header, file}
use Rattle.pciv_format.specs.Parts.{Parts}
use Rattle.pciv_format.specs.Check.{file_parts}
use Rattle.pciv_format.proofs.LayoutLaws.{length-header, length-file, file_len-is}
use Rattle.pciv_format.proofs.PartsLaws.{primary_byte-full}
use Rattle.pciv_format.proofs.FileLaws.{file-byte}
use Rattle.pciv_build.proofs.EntriesLaws.{count-sum, overflow_count-sum}
use Rattle.pciv_repair_file.specs.Repaired.{is_kept, kept_entries, is_set, repaired_parts, repaired_at, repaired_file}
use Rattle.pciv_repair_file.specs.Repaired.{full_count, bytes_after, rebuilt_index, same, PartsGiven}
use Rattle.pciv_repair_file.proofs.KeptLaws.{set_full, kept_byte}
use Rattle.pciv_repair_file.proofs.RepairedLaws.{repaired-count, repaired-le}
use Rattle.pciv_repair_file.proofs.WalkLaws.{kept_count-all, full_count-is}
use Rattle.pciv_repair.specs.Repair.{field_at, field_of, other_field, Correction, correction, field_line, was_set}
use Rattle.pciv_repair.specs.Repair.{set_line, index_line}
use Rattle.pciv_repair.specs.Repair.{field_lines, dropped_lines, set_lines, index_lines, corrections, numbers_of}
use Rattle.pciv_repair.proofs.RebuiltLaws.{rebuilt-byte}

-- ---- lists of changes

map-lines : (f g : ℕ → Correction) (xs : List ℕ)
    → ((j : ℕ) → j < length xs → f (get_or xs j 0) ≡ g (get_or xs j 0)) → map f xs ≡ map g xs
map-lines f g [] each = refl
map-lines f g (x ∷ xs) each =
    ap₂ (λ (c : Correction) (cs : List Correction). c ∷ cs) (each 0 (omega arith))
    (map-lines f g xs (λ j h. each (suc j) (omega arith)))

module _ (b : List ℕ) (n k : ℕ) where
  pub length-field_lines : length (field_lines b n k) ≡ length (positions (other_field b (repaired_file b n k)) 0 6)
  length-field_lines = simp length-map refl

  pub length-dropped_lines : length (dropped_lines b n k)
      ≡ length (positions (λ (j : ℕ). not (is_kept (file_parts b n k) j)) 0 k)
  length-dropped_lines = simp length-map refl

pub numbers_of-append : (cs ds : List Correction) → numbers_of (cs ++ ds) ≡ numbers_of cs ++ numbers_of ds
unfolding numbers_of
numbers_of-append [] ds = refl
numbers_of-append (c ∷ cs) ds =
    ap (λ (l : List ℕ). c.kind ∷ c.place ∷ c.before ∷ c.after ∷ l) (numbers_of-append cs ds)

pub length-numbers_of : (cs : List Correction) → length (numbers_of cs) ≡ 4 * length cs
unfolding numbers_of
length-numbers_of [] = refl
length-numbers_of (c ∷ cs) = omega (arith, length-numbers_of cs)

-- no change, and one
pub no-numbers : (cs : List Correction) → cs ≡ [] → (at : ℕ) (l : List ℕ)
    → (at ≡ at + length cs) × (l ≡ sets l (4 * at) (numbers_of cs))
unfolding numbers_of
no-numbers cs e at l = rw e (sym (add-zero at), refl)

pub one_number : (cs : List Correction) (c : Correction) → cs ≡ c ∷ []
    → (length cs ≡ 1) × (numbers_of cs ≡ c.kind ∷ c.place ∷ c.before ∷ c.after ∷ [])
unfolding numbers_of
one_number cs c e = rw e (refl, refl)

-- one list of changes behind another
pub two-lists : (cs ds : List Correction) (at : ℕ) (l l₁ l₂ : List ℕ) → l₁ ≡ sets l (4 * at) (numbers_of cs)
    → l₂ ≡ sets l₁ (4 * (at + length cs)) (numbers_of ds) → l₂ ≡ sets l (4 * at) (numbers_of (cs ++ ds))
two-lists cs ds at l l₁ l₂ first second =
    let next : 4 * (at + length cs) ≡ 4 * at + length (numbers_of cs) = omega (arith, length-numbers_of cs) in
    second
    ∙ ap₂ (λ (d : List ℕ) (i : ℕ). sets d i (numbers_of ds)) first next
    ∙ sym (ap (sets l (4 * at)) (numbers_of-append cs ds) ∙ sets-append (numbers_of cs) (numbers_of ds) l (4 * at))

-- ---- header fields

field_in : (n k i : ℕ) (t : List ℕ) → i < 6 → field_of (header n k ++ t) i ≡ field_of (header n k) i
unfolding field_of
field_in n k i t h =
    elim (dec_le 2 i) [
      | yes d ↦ rw (le-ltb i 2 d) (get_in 8 (header n k) t _ (omega (arith, length-header n k)))
      | no d ↦ rw (lt-ltb i 2 (omega arith)) (get_in 4 (header n k) t _ (omega (arith, length-header n k)))
    ]

module _ (b : List ℕ) (n k : ℕ) (bytes : Bytes b) (given : PartsGiven b n k) where
  abbrev parts : Parts
  parts = file_parts b n k

  abbrev kept : ℕ
  kept = length (kept_entries (file_parts b n k))

  abbrev new : List ℕ
  new = repaired_file b n k

  -- ---- how many there are

  pub dropped-count : length (positions (λ (j : ℕ). not (is_kept (file_parts b n k) j)) 0 k)
      + length (kept_entries (file_parts b n k)) ≡ k
  dropped-count =
      rw (count-sum (λ (j : ℕ). not (is_kept parts j)) k 0, kept_count-all parts, count-sum (is_kept parts) k 0)
      (sum_from-rest (λ (j : ℕ). flag (not (is_kept parts j))) (λ (j : ℕ). flag (is_kept parts j))
      (λ j. flag-not (is_kept parts j)) 0 k)

  -- a byte 255 is set, or its slot stays in overflow
  full-or-set : (i : ℕ) → i < n
      → flag (is_set parts i) + flag (in_overflow (repaired_at b n k i)) ≡ flag (eqb (parts.byte i) 255)
  full-or-set i h =
      let byte : primary_byte (repaired_at b n k i) ≡ (repaired_parts parts).byte i =
      sym (file-byte n (repaired_at b n k) given.small (repaired-le b n k bytes) i h)
      ∙ rebuilt-byte b n k bytes given i h in
      ap (λ (t : Bool). flag (is_set parts i) + flag t)
      (sym (primary_byte-full (repaired_at b n k i)) ∙ ap (λ (x : ℕ). eqb x 255) byte)
      ∙ go (is_set parts i) refl
    where
      go : (t : Bool) → is_set parts i ≡ t
          → flag (is_set parts i) + flag (eqb ((repaired_parts parts).byte i) 255) ≡ flag (eqb (parts.byte i) 255)
      go true e = rw (e, set_full parts i e)
      go false e =
          ap₂ (λ (t : Bool) (x : ℕ). flag t + flag (eqb x 255)) e (kept_byte parts i e)
          ∙ zero-add (flag (eqb (parts.byte i) 255))

  pub set-count : length (positions (is_set (file_parts b n k)) 0 n) + length (kept_entries (file_parts b n k)) ≡ full_count b n
  set-count =
      rw (
        count-sum (is_set parts) n 0,
        ← (repaired-count b n k bytes),
        overflow_count-sum n (repaired_at b n k),
        full_count-is b n k,
      )
      (sum_from-plus (λ (i : ℕ). flag (is_set parts i)) (λ (i : ℕ). flag (in_overflow (repaired_at b n k i)))
      (λ (i : ℕ). flag (eqb (parts.byte i) 255)) 0 n (λ i h₁ h₂. full-or-set i (omega arith)))

  pub lines-total : length (corrections b n k)
      ≡ length (field_lines b n k) + length (dropped_lines b n k) + length (set_lines b n k) + length (index_lines b n k)
  unfolding corrections
  lines-total = simp length-append (omega arith)

  pub lines-count : length (corrections b n k)
      ≡ length (positions (other_field b (repaired_file b n k)) 0 6)
      + length (positions (λ (j : ℕ). not (is_kept (file_parts b n k) j)) 0 k)
      + length (positions (is_set (file_parts b n k)) 0 n)
      + flag (not (same (bytes_after b n k) (rebuilt_index b n k)))
  lines-count =
      lines-total ∙ simp length-map (omega (arith, go (same (bytes_after b n k) (rebuilt_index b n k))))
    where
      go : (t : Bool)
          → length (cond t [] (index_line (length (bytes_after b n k)) (length (rebuilt_index b n k)) ∷ [])) ≡ flag (not t)
      go true = refl
      go false = refl

  pub lines-few : length (corrections b n k) ≤ n + k + 7
  lines-few =
      omega (
        arith,
        lines-count,
        positions-count (other_field b new) 0 6,
        positions-count (λ (j : ℕ). not (is_kept parts j)) 0 k,
        positions-count (is_set parts) 0 n,
        flag-le (not (same (bytes_after b n k) (rebuilt_index b n k))),
      )

  -- ---- the fields, by bytes that begin with the rebuilt header

  abbrev pub Begins : List ℕ → Type 0
  Begins g = (t : List ℕ) × (g ≡ header n (length (kept_entries (file_parts b n k))) ++ t)

  pub file-begins : (t : List ℕ) → Begins (repaired_file b n k ++ t)
  unfolding file
  file-begins t =
      let v : ℕ → ℕ = repaired_at b n k in
      let rest : List ℕ = primary n v ++ (overflow_part n v ++ index_part (overflow_slots n v)) in (
        rest ++ t,
        ap (λ (c : ℕ). (header n c ++ rest) ++ t) (repaired-count b n k bytes) ∙ append_assoc (header n kept) rest t,
      )

  pub header-begins : (c : ℕ) → c ≡ length (kept_entries (file_parts b n k)) → (d d' : List ℕ) → 40 ≤ length d
      → d' ≡ sets d 0 (header n c) → Begins d'
  header-begins c count d d' space put = (
    drop (length (header n c)) d,
    put
        ∙ sets-front (header n c) d (omega (arith, length-header n c))
        ∙ ap (λ (x : ℕ). header n x ++ drop (length (header n c)) d) count,
  )

  field-same : (g : List ℕ) → Begins g → (i : ℕ) → i < 6 → field_of g i ≡ field_of new i
  field-same g begins i h =
      let f = file-begins [] in
      ap (λ (l : List ℕ). field_of l i) begins.1
      ∙ field_in n kept i begins.0 h
      ∙ sym (ap (λ (l : List ℕ). field_of l i) (sym (append-nil new) ∙ f.1) ∙ field_in n kept i f.0 h)

  pub fields-same : (g : List ℕ) → Begins g
      → (positions (other_field b g) 0 6 ≡ positions (other_field b (repaired_file b n k)) 0 6)
      × (map (field_line b g) (positions (other_field b g) 0 6) ≡ field_lines b n k)
  fields-same g begins =
      let where-same : positions (other_field b g) 0 6 ≡ positions (other_field b new) 0 6 =
      positions-cong (other_field b g) (other_field b new) 0 6
      (λ i h₁ h₂. ap (λ (x : ℕ). not (eqb (field_of b i) x)) (field-same g begins i (omega arith))) in (
        where-same,
        ap (map (field_line b g)) where-same
            ∙ map-lines (field_line b g) (field_line b new) (positions (other_field b new) 0 6)
            (λ c h.
            (let i : ℕ = get_or (positions (other_field b new) 0 6) c 0 in
            ap (λ (x : ℕ). correction 1 (field_at i) (field_of b i) x)
            (field-same g begins i (omega (arith, (positions-at (other_field b new) 0 6 c h).high))))),
      )

  -- ---- the bytes, by the rebuilt file with more behind it

  pub was_set-is : (g t : List ℕ) → g ≡ repaired_file b n k ++ t
      → positions (was_set b g) 0 n ≡ positions (is_set (file_parts b n k)) 0 n
  was_set-is g t is =
      positions-cong (was_set b g) (is_set parts) 0 n
      (λ i h₁ h₂.
      ap (λ (x : ℕ). eqb (byte_at b (40 + i)) 255 && not (eqb x 255))
      (ap (λ (l : List ℕ). byte_at l (40 + i)) is
      ∙ get_or-append new t 0 (40 + i) (omega (
        arith,
        length-file n (repaired_at b n k),
        file_len-is n (overflow_count n (repaired_at b n k)),
      ))
      ∙ rebuilt-byte b n k bytes given i (omega arith))
      ∙ go i (is_set parts i) refl)
    where
      apart : (t : Bool) → t && not t ≡ false
      apart true = refl
      apart false = refl

      go : (i : ℕ) (t : Bool) → is_set parts i ≡ t
          → eqb (byte_at b (40 + i)) 255 && not (eqb ((repaired_parts parts).byte i) 255) ≡ is_set parts i
      go i true e = rw (set_full parts i e, e)
      go i false e =
          ap (λ (x : ℕ). eqb (byte_at b (40 + i)) 255 && not (eqb x 255)) (kept_byte parts i e)
          ∙ apart (eqb (byte_at b (40 + i)) 255)
          ∙ sym e

  -- none is set
  pub set-none : full_count b n ≤ length (kept_entries (file_parts b n k)) → set_lines b n k ≡ []
  set-none few = ap (map set_line) (nothing (positions (is_set parts) 0 n) (omega (arith, few, set-count)))
    where
      nothing : (l : List ℕ) → length l ≡ 0 → l ≡ []
      nothing [] e = refl
      nothing (x ∷ l) e = absurd (omega arith)

  pub rebuilt-long : (g t : List ℕ) → g ≡ repaired_file b n k ++ t → 40 + n ≤ length g
  rebuilt-long g t is =
      let v : ℕ → ℕ = repaired_at b n k in
      omega (arith, ap length is, length-append new t, length-file n v, file_len-is n (overflow_count n v))

  -- ---- the bytes behind the entries

  pub index-none : same (bytes_after b n k) (rebuilt_index b n k) ≡ true → index_lines b n k ≡ []
  index-none e = rw e

  pub index-one : same (bytes_after b n k) (rebuilt_index b n k) ≡ false
      → index_lines b n k ≡ index_line (length (bytes_after b n k)) (length (rebuilt_index b n k)) ∷ []
  index-one e = rw e

  -- ---- the whole list

  pub all_lines : (l l₁ l₂ l₃ l₄ : List ℕ) → l₁ ≡ sets l 0 (numbers_of (field_lines b n k))
      → l₂ ≡ sets l₁ (4 * length (field_lines b n k)) (numbers_of (dropped_lines b n k))
      → l₃ ≡ sets l₂ (4 * (length (field_lines b n k) + length (dropped_lines b n k))) (numbers_of (set_lines b n k))
      → l₄ ≡ sets l₃ (4 * (length (field_lines b n k) + length (dropped_lines b n k) + length (set_lines b n k)))
      (numbers_of (index_lines b n k))
      → l₄ ≡ sets l 0 (numbers_of (corrections b n k))
  unfolding corrections
  all_lines l l₁ l₂ l₃ l₄ e₁ e₂ e₃ e₄ =
      let F = field_lines b n k in
      let D = dropped_lines b n k in
      let S = set_lines b n k in
      let I = index_lines b n k in
      two-lists F (D ++ (S ++ I)) 0 l l₁ l₄ e₁
      (two-lists D (S ++ I) (0 + length F) l₁ l₂ l₄ (e₂ ∙ ap (λ (i : ℕ). sets l₁ i (numbers_of D)) (omega arith))
      (two-lists S I (0 + length F + length D) l₂ l₃ l₄ (e₃ ∙ ap (λ (i : ℕ). sets l₂ i (numbers_of S)) (omega arith))
      (e₄ ∙ ap (λ (i : ℕ). sets l₃ i (numbers_of I)) (omega arith))))
