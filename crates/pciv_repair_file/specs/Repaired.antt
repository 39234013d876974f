-- The file that is rebuilt from a primary array and overflow entries alone (docs/FORMAT.md, "Repair"). P are these
-- parts, wherever they stand; b are the bytes of a file, with n and k as the caller gives them.
--   wrong_at P lowest j     entry j is wrong (refusal 6), where its slot may be `lowest` at the least
--   lowest_after P lowest j the least slot that the entry after it may have: above its own where it is kept
--   lowest_kept P j         the least slot that entry j may have: above that of the last entry kept before it
--   is_kept P j             entry j is kept
--   kept_entries P          the numbers of the kept entries, rising
--   kept_parts P            P with these entries alone
--   is_set P i              slot i has byte 255 and no kept entry (refusal 7): its byte is set to 254
--   repaired_parts P        the kept entries, and the primary bytes with these set
--   repaired_at b n k i     the distance of slot i in the rebuilt file
--   repaired_file b n k     that file
--   full_count b n          how many primary bytes are 255
--   kept_bytes P            the bytes of the kept entries
--   bytes_after b n k       what stands behind the given overflow entries
--   rebuilt_index b n k     the sparse index of the rebuilt file
--   same xs ys             two lists of numbers are the same
--   PartsGiven b n k       n and k are within their limits, and the parts lie within b
-- Laws are in proofs/KeptLaws.antt, RepairedLaws.antt and WholeLaws.antt. Axioms: none.
use Rattle.std.specs.Prelude.{ℕ, zero, suc, ◌+◌, ◌*◌, ◌≤◌, Bool, true, false, not, cond, ◌&&◌, List, [], ◌∷◌, length, drop, eqb}
use Rattle.pciv_bytes.specs.Ranges.{flag, positions, sum_from}
use Rattle.pciv_format.specs.Layout.{max_slots, overflow_slots, index_part, file, at}
use Rattle.pciv_format.specs.Parts.{Parts, wrong_entry, bad_slot, value_of}
use Rattle.pciv_format.specs.Check.{file_parts}
use Rattle.pciv_close.specs.Close.{entries_from}

-- ---- the entries that are kept

abbrev pub wrong_at : Parts → ℕ → ℕ → Bool
wrong_at P lowest j = wrong_entry P.n P.byte lowest (P.slot j) (P.distance j)

abbrev pub lowest_after : Parts → ℕ → ℕ → ℕ
lowest_after P lowest j = cond (wrong_at P lowest j) lowest (P.slot j + 1)

-- in file order, judged against the last one kept
unfoldable pub lowest_kept : Parts → ℕ → ℕ
lowest_kept P zero = 0
lowest_kept P (suc j) = lowest_after P (lowest_kept P j) j

unfoldable pub is_kept : Parts → ℕ → Bool
is_kept P j = not (wrong_at P (lowest_kept P j) j)

unfoldable pub kept_entries : Parts → List ℕ
kept_entries P = positions (is_kept P) 0 P.k

abbrev pub kept_parts : Parts → Parts
kept_parts P =
    record {
      n = P.n;
      k = length (kept_entries P);
      byte = P.byte;
      slot = λ c. P.slot (at (kept_entries P) c);
      distance = λ c. P.distance (at (kept_entries P) c);
    }

-- ---- the bytes that are set

unfoldable pub is_set : Parts → ℕ → Bool
is_set P i = bad_slot (kept_parts P) i

abbrev pub repaired_parts : Parts → Parts
repaired_parts P =
    record {
      n = P.n;
      k = length (kept_entries P);
      byte = λ i. cond (is_set P i) 254 (P.byte i);
      slot = λ c. P.slot (at (kept_entries P) c);
      distance = λ c. P.distance (at (kept_entries P) c);
    }

-- ---- the rebuilt file

unfoldable pub repaired_at : List ℕ → ℕ → ℕ → ℕ → ℕ
repaired_at b n k i = value_of (repaired_parts (file_parts b n k)) i

abbrev pub repaired_file : List ℕ → ℕ → ℕ → List ℕ
repaired_file b n k = file n (repaired_at b n k)

-- ---- how it is written

unfoldable pub full_count : List ℕ → ℕ → ℕ
full_count b n = sum_from (λ (i : ℕ). flag (eqb ((file_parts b n 0).byte i) 255)) 0 n

unfoldable pub kept_bytes : Parts → List ℕ
kept_bytes P = entries_from (kept_parts P).slot (kept_parts P).distance 0 (length (kept_entries P))

-- ---- its index, and what stood in its place

abbrev pub bytes_after : List ℕ → ℕ → ℕ → List ℕ
bytes_after b n k = drop (40 + n + 12 * k) b

abbrev pub rebuilt_index : List ℕ → ℕ → ℕ → List ℕ
rebuilt_index b n k = index_part (overflow_slots n (repaired_at b n k))

unfoldable pub same : List ℕ → List ℕ → Bool
same [] [] = true
same [] (y ∷ ys) = false
same (x ∷ xs) [] = false
same (x ∷ xs) (y ∷ ys) = eqb x y && same xs ys

-- ---- what refusals 3, 4 and 5 have shown

pub record PartsGiven (b : List ℕ) (n k : ℕ) : Type 0 where
  pub small : n ≤ max_slots
  pub few : k ≤ n
  pub inside : 40 + n + 12 * k ≤ length b
