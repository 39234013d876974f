-- Worked cases of repair, by computation (docs/FORMAT.md, "Worked examples").
--   further    what is rebuilt and listed
--   answers    what is answered, refusals included, and a list afterwards
--   applies    what the bytes and the list give
-- Axioms: none.
use Rattle.std.proofs.Common.{Ok}
use Rattle.pciv_format.specs.declared.RefusalKind.TheVariants.{TooManySlots, BadCounts, BadLength, BufferTooSmall}
use mathlib.Core.Path.{◌≡◌, refl}
use Prim.Native.Nat.{ℕ}
use mathlib.Core.List.{List, [], ◌∷◌, ◌++◌}
use lib.ListN.{drop, take, set}
use Rattle.pciv_bytes.specs.Ranges.{first_from, first_below, table, positions, joined, sum_from}
use Rattle.pciv_bytes.specs.LittleEndian.{le, number, get}
use Rattle.pciv_format.specs.Layout.{index_step, index_len, file_len, primary, overflow_slots, overflow_count, overflow_entry}
use Rattle.pciv_format.specs.Layout.{overflow_part, index_entry, index_part, header, file, counts_of, summary, file_of}
use Rattle.pciv_format.specs.Layout.{summary_of}
use Rattle.pciv_format.specs.Refusals.{refuse}
use Rattle.pciv_format.specs.Parts.{wrong_entry, entry_of, bad_slot, value_of}
use Rattle.pciv_repair_file.specs.Repaired.{lowest_kept, is_kept, kept_entries, is_set, repaired_at, repaired_file, same}
use Rattle.pciv_repair.specs.Applied.{has_line, new_in, new_header, new_primary, new_entries, new_index, applied}
use Rattle.pciv_repair.specs.Repair.{field_of, correction, corrections, numbers_of, repair_outcome, repair_list}

abbrev A : List ℕ
A = 0 ∷ 254 ∷ 255 ∷ 300 ∷ []

-- A's entries in the other order
abbrev swapped : List ℕ
swapped = take 44 (file_of A) ++ (drop 56 (file_of A) ++ take 12 (drop 44 (file_of A)))

-- A with another number in the slot of its first entry
abbrev outside : List ℕ
outside = set (file_of A) 44 9

-- what is rebuilt and listed
pub further :
    (corrections (file_of A) 4 2 ≡ [])
    × (repaired_file (file_of A) 4 2 ≡ file_of A)
    × (corrections (file_of A) 4 1 ≡ correction 1 16 2 1 ∷ correction 3 3 255 254 ∷ correction 4 0 12 0 ∷ [])
    × (repaired_file (file_of A) 4 1 ≡ file_of (0 ∷ 254 ∷ 255 ∷ 254 ∷ []))
    × (corrections swapped 4 2 ≡ correction 1 16 2 1 ∷ correction 2 1 2 0 ∷ correction 3 2 255 254 ∷ [])
    × (repaired_file swapped 4 2 ≡ file_of (0 ∷ 254 ∷ 254 ∷ 300 ∷ []))
    × (corrections (set (set (file_of A) 0 7) 32 9) 4 2
    ≡ correction 1 0 0x56494307 0x56494350 ∷ correction 1 32 9 0 ∷ [])
    × (repaired_file (set (set (file_of A) 0 7) 32 9) 4 2 ≡ file_of A)
    × (corrections outside 4 2 ≡ correction 1 16 2 1 ∷ correction 2 0 9 0 ∷ correction 3 2 255 254 ∷ [])
    × (repaired_file outside 4 2 ≡ file_of (0 ∷ 254 ∷ 254 ∷ 300 ∷ []))
    × (corrections (file_of []) 0 0 ≡ [])
    × (repaired_file (file_of []) 0 0 ≡ file_of [])
unfolding
    first_from first_below table positions joined sum_from le number get index_step index_len file_len primary
    overflow_slots overflow_count overflow_entry overflow_part index_entry index_part header file
    wrong_entry entry_of bad_slot value_of lowest_kept is_kept kept_entries is_set repaired_at same field_of corrections
further = (refl, refl, refl, refl, refl, refl, refl, refl, refl, refl, refl, refl)

-- what is answered, with lists that are just long enough or one number short
pub answers :
    (repair_outcome (file_of A) 4 2 68 0 ≡ Ok (record { summary = summary_of A; lines = 0 }))
    × (repair_outcome (file_of A) 4 2 67 0 ≡ refuse BufferTooSmall 0 0)
    × (repair_outcome swapped 4 2 56 12
    ≡ Ok (record { summary = summary_of (0 ∷ 254 ∷ 254 ∷ 300 ∷ []); lines = 3 }))
    × (repair_outcome swapped 4 2 56 11 ≡ refuse BufferTooSmall 0 0)
    × (repair_outcome (take 67 (file_of A)) 4 2 68 0 ≡ refuse BadLength 1 0)
    × (repair_outcome [] 0 0 68 0 ≡ refuse BadLength 1 0)
    × (repair_outcome (file_of A) 4 5 68 0 ≡ refuse BadCounts 1 0)
    × (repair_outcome (file_of A) 1048577 1048578 68 0 ≡ refuse TooManySlots 1 0)
    × (repair_list (file_of A) 4 1 56 (table (λ (i : ℕ). i) 100 14)
    ≡ 1 ∷ 16 ∷ 2 ∷ 1 ∷ 3 ∷ 3 ∷ 255 ∷ 254 ∷ 4 ∷ 0 ∷ 12 ∷ 0 ∷ 112 ∷ 113 ∷ [])
unfolding
    first_from first_below table positions joined sum_from le number get index_step index_len file_len primary
    overflow_slots overflow_count overflow_entry overflow_part index_entry index_part header file counts_of summary
    wrong_entry entry_of bad_slot value_of lowest_kept is_kept kept_entries is_set repaired_at same field_of corrections
    numbers_of repair_outcome repair_list
answers = (refl, refl, refl, refl, refl, refl, refl, refl, refl)

-- the bytes and the list, read back: what is rebuilt
pub applies :
    (applied swapped 4 2 (correction 1 16 2 1 ∷ correction 2 1 2 0 ∷ correction 3 2 255 254 ∷ [])
    ≡ file_of (0 ∷ 254 ∷ 254 ∷ 300 ∷ []))
    × (applied (file_of A) 4 1 (correction 1 16 2 1 ∷ correction 3 3 255 254 ∷ correction 4 0 12 0 ∷ [])
    ≡ file_of (0 ∷ 254 ∷ 255 ∷ 254 ∷ []))
    × (applied (set (set (file_of A) 0 7) 32 9) 4 2 (correction 1 0 0x56494307 0x56494350 ∷ correction 1 32 9 0 ∷ [])
    ≡ file_of A)
    × (applied (file_of A) 4 2 [] ≡ file_of A)
unfolding
    first_from first_below table positions joined sum_from le number get index_step index_len file_len primary
    overflow_slots overflow_count overflow_entry overflow_part index_entry index_part header file field_of
    has_line new_in new_header new_primary new_entries new_index applied
applies = (refl, refl, refl, refl)
