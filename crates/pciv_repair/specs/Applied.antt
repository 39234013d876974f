-- The list of changes, read back (docs/FORMAT.md, "Repair"): what it says of a place, the file that b becomes by it,
-- and what a change in it is. b are the bytes of a file, with n and k as the caller gives them; cs are changes.
--   is_line c kind place            c is a change of that kind at that place
--   has_line cs kind place          one of cs is
--   new_in cs kind place old        the number after the first such change, or `old` where there is none
--   entry_bytes b n j               the bytes of overflow entry j
--   entries_left k cs               the numbers of the entries that cs does not drop, rising
--   new_field, new_header, new_primary, new_entries, new_index    the parts of the file that b becomes by cs
--   applied b n k cs               that file
--   Before c c'                    c comes before c' in a list: its kind is smaller, or its place in the same kind
--   TrueLine b n k c               c tells a change of b that a repair makes
-- Laws are in proofs/AppliedLaws.antt, CompleteLaws.antt and TrueLaws.antt. Axioms: none.
use Rattle.std.specs.Prelude.{◌≡◌, ℕ, ◌+◌, ◌*◌, ◌<◌, ◌⊎◌, Bool, false, not, cond, ◌&&◌, ◌||◌, List, [], ◌∷◌, ◌++◌, map, length, take, drop, eqb}
use Rattle.pciv_bytes.specs.Ranges.{table, positions, joined}
use Rattle.pciv_bytes.specs.LittleEndian.{le}
use Rattle.pciv_bytes.specs.ByteAt.{byte_at}
use Rattle.pciv_format.specs.Layout.{index_part}
use Rattle.pciv_format.specs.Check.{k_field, m_field, file_parts}
use Rattle.pciv_repair_file.specs.Repaired.{is_kept, repaired_file, bytes_after}
use Rattle.pciv_repair.specs.Repair.{field_at, field_of, Correction, field_line, dropped_line, set_line, index_line}

-- ---- what a list of changes says of a place

-- a change of that kind at that place
abbrev pub is_line : Correction → ℕ → ℕ → Bool
is_line c kind place = eqb c.kind kind && eqb c.place place

-- one of them is such a change
unfoldable pub has_line : List Correction → ℕ → ℕ → Bool
has_line [] kind place = false
has_line (c ∷ cs) kind place = is_line c kind place || has_line cs kind place

-- the number after the first such change, or `old`
unfoldable pub new_in : List Correction → ℕ → ℕ → ℕ → ℕ
new_in [] kind place old = old
new_in (c ∷ cs) kind place old = cond (is_line c kind place) c.after (new_in cs kind place old)

-- ---- the file that b becomes by the changes

-- the bytes of overflow entry j: slot and distance
abbrev pub entry_bytes : List ℕ → ℕ → ℕ → List ℕ
entry_bytes b n j = take 12 (drop (40 + n + 12 * j) b)

-- the numbers of the entries that are not dropped
abbrev pub entries_left : ℕ → List Correction → List ℕ
entries_left k cs = positions (λ (j : ℕ). not (has_line cs 2 j)) 0 k

-- header field i
abbrev pub new_field : List ℕ → List Correction → ℕ → ℕ
new_field b cs i = new_in cs 1 (field_at i) (field_of b i)

-- the header: two fields of 4 bytes, then four of 8
unfoldable pub new_header : List ℕ → List Correction → List ℕ
new_header b cs =
    le 4 (new_field b cs 0) ++ (le 4 (new_field b cs 1) ++ (le 8 (new_field b cs 2) ++ (le 8 (new_field b cs 3)
    ++ (le 8 (new_field b cs 4) ++ le 8 (new_field b cs 5)))))

-- the primary array
unfoldable pub new_primary : List ℕ → ℕ → List Correction → List ℕ
new_primary b n cs = table (λ (i : ℕ). new_in cs 3 i (byte_at b (40 + i))) 0 n

-- the overflow entries that are not dropped
unfoldable pub new_entries : List ℕ → ℕ → ℕ → List Correction → List ℕ
new_entries b n k cs = joined (entry_bytes b n) (entries_left k cs)

-- the index: that of the slots of these entries where it is rebuilt, else what stood there
unfoldable pub new_index : List ℕ → ℕ → ℕ → List Correction → List ℕ
new_index b n k cs =
    cond (has_line cs 4 0) (index_part (map (file_parts b n k).slot (entries_left k cs))) (bytes_after b n k)

-- the whole file
unfoldable pub applied : List ℕ → ℕ → ℕ → List Correction → List ℕ
applied b n k cs = new_header b cs ++ (new_primary b n cs ++ (new_entries b n k cs ++ new_index b n k cs))

-- ---- what a change in the list is

-- the order of the list: by kind, and each kind by rising place
abbrev pub Before : Correction → Correction → Type 0
Before c c' = (c.kind < c'.kind) ⊎ ((c.kind ≡ c'.kind) × (c.place < c'.place))

-- a change that is true of b and of the rebuilt file, one case for each kind
pub data TrueLine (b : List ℕ) (n k : ℕ) (c : Correction) : Type 0 where
  -- header field i, which differs
  true_field : (i : ℕ) → i < 6 → (field_of b i ≡ field_of (repaired_file b n k) i → ⊥)
      → c ≡ field_line b (repaired_file b n k) i → TrueLine b n k c
  -- entry j, which is not kept
  true_dropped : (j : ℕ) → j < k → is_kept (file_parts b n k) j ≡ false → c ≡ dropped_line b n k j → TrueLine b n k c
  -- the byte of slot i, 255 before and 254 after
  true_set : (i : ℕ) → i < n → byte_at b (40 + i) ≡ 255 → byte_at (repaired_file b n k) (40 + i) ≡ 254 → c ≡ set_line i
      → TrueLine b n k c
  -- what stood after the entries, which is not the index
  true_index : (bytes_after b n k ≡ drop (40 + n + 12 * k_field (repaired_file b n k)) (repaired_file b n k) → ⊥)
      → c ≡ index_line (length (bytes_after b n k)) (16 * m_field (repaired_file b n k)) → TrueLine b n k c
