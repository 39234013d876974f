-- The worked examples of docs/FORMAT.md, proved for the definitions by computing them.
--   A, B        the two maps of "Worked examples";  M  64 slots at 1 and one at 300;  ones  a word of set bits
--   primary_of_a, looked_up    the primary array of A; slots of A that are looked up
--   told, found, set_to, Gives, LengthRow    short forms of what the statements repeat
--   cases       the cases that "Worked examples" marks as proved, under one statement: a component for each
--   lengths     the table of "Derived counts"
--   further     the near masks, shifts and lookups of "Worked examples", cases of the routines that these leave out, the
--               check of a buffer and without the sum, the readings of a primary array, edits before other bytes, and masks
--               of more than a word
--   examples    the other cases of "Worked examples", and texts of "The report program"
-- A caller's buffer or list holds 7 in each place, so that what is left unchanged shows. Axioms: none.
use Rattle.std.proofs.Common.{Ok}
use Rattle.pciv_format.specs.declared.RefusalKind.TheVariants.{TooManySlots, BadOverflowEntry, SlotOutOfRange, DistanceOverflow, BufferTooSmall, BadMask}
use mathlib.Core.Path.{◌≡◌, refl}
use Prim.Native.Nat.{ℕ, ◌+◌}
use mathlib.Core.Bool.{xor}
use mathlib.Core.List.{List, [], ◌∷◌, ◌++◌}
use lib.ListN.{length, drop, replicate}
use lib.IntN.{pos, negsuc}
use lib.Ieee.{of_bits, of_int, div, binary64}
use Rattle.pciv_bytes.specs.Ranges.{first_from, first_below, table, positions, joined, sum_from}
use Rattle.pciv_bytes.specs.LittleEndian.{le, number, get}
use Rattle.pciv_format.specs.Layout.{index_step, index_len, file_len, primary, overflow_slots}
use Rattle.pciv_format.specs.Layout.{overflow_count, overflow_entry, overflow_part, index_entry}
use Rattle.pciv_format.specs.Layout.{index_part, header, file, counts_of, summary, at, file_of}
use Rattle.pciv_format.specs.Layout.{summary_of}
use Rattle.pciv_format.specs.Refusals.{refuse}
use Rattle.pciv_format.specs.Parts.{wrong_entry, bad_entry, entry_of, bad_slot, value_of}
use Rattle.pciv_format.specs.Check.{bad_index_entry, bad_counts, check_parts, check_header, check_with, counts_file}
use Rattle.pciv_format.specs.Read.{list_of, primary_part, lookup_outcome, total, readings}
use Rattle.pciv_format.specs.Read.{lookup_list_outcome, lookup_list_buffer, lookup_list_entries}
use Rattle.pciv_format.specs.Read.{check_file, check_buffer, scan_outcome, scan_buffer, sum_outcome}
use Rattle.pciv_format.specs.Write.{file_into, write_outcome, write_buffer, close_outcome, close_buffer}
use Rattle.pciv_format.specs.Mask.{mask_len, bit_at, mask_has, word, mask_of, bad_mask, set_bits}
use Rattle.pciv_format.specs.Mask.{set_bits_outcome, combine_outcome, combine_words, complement_outcome}
use Rattle.pciv_format.specs.Mask.{complement_words, map_of_mask_outcome, map_of_mask_buffer}
use Rattle.pciv_format.specs.Mask.{keep_masked_outcome, keep_masked_buffer, increment_masked_outcome}
use Rattle.pciv_format.specs.Mask.{increment_masked_buffer, threshold_outcome, threshold_words}
use Rattle.pciv_format.specs.Mask.{near_mask_outcome, near_mask_words}
use Rattle.pciv_format.specs.Arith.{combine_maps_outcome, combine_maps_buffer, shifted_by, shift_outcome}
use Rattle.pciv_format.specs.Arith.{shift_buffer, signed_differences, signed_difference_outcome}
use Rattle.pciv_format.specs.Arith.{signed_difference_list}
use Rattle.pciv_format.specs.Figures.{quotient, distance_between, bray_curtis_outcome, count_at, jaccard_outcome}
use Rattle.pciv_format.specs.Edit.{Edit, edited, plain_outcome, edited_file, edit_outcome, replaced, edit_buffer}
use Rattle.pciv_format.specs.Edit.{entries_above, moved_by, plain_moved, edit_moved, plain_start, plain_step}
use Rattle.pciv_format.specs.Edit.{plain_run, plain_outcomes, plain_moves, buffer_of, answer_cells, all_cells}
use Rattle.pciv_format.specs.Edit.{edits_of, edit_list_outcome, edit_list_buffer, edit_list_answers}
use Rattle.pciv_format.specs.Report.{digits, decimal, field, line, map_lines, refused_line, report_text}
use Rattle.pciv_format.specs.declared.Summary.{Summary}
use Rattle.pciv_format.specs.declared.Origin.{Origin}
use Rattle.pciv_format.specs.declared.Origin.TheVariants.{Inline, Overflow}
use Rattle.pciv_format.specs.declared.Located.{Located}
use Rattle.pciv_format.specs.declared.SlotOp.{SlotOp}
use Rattle.pciv_format.specs.declared.SlotOp.TheVariants.{Minimum, Maximum, Sum, Difference}
use Rattle.pciv_format.specs.declared.Comparison.TheVariants.{Below, AtMost, Above, AtLeast}
use Rattle.pciv_format.specs.declared.MaskOp.TheVariants.{And, Or, Xor}
use Rattle.pciv_format.proofs.MovedLaws.{renumbered}

abbrev pub A : List ℕ
A = 0 ∷ 254 ∷ 255 ∷ 300 ∷ []

abbrev pub B : List ℕ
B = 1 ∷ 1 ∷ 1 ∷ 4294967295 ∷ []

abbrev pub told : ℕ → ℕ → ℕ → ℕ → ℕ → ℕ → Summary
told n k m step len sum = record { n = n; k = k; m = m; step = step; len = len; sum = sum }

abbrev pub found : ℕ → Origin → Located
found distance origin = record { distance = distance; origin = origin }

abbrev pub set_to : ℕ → ℕ → Edit
set_to slot distance = record { slot = slot; distance = distance }

-- o on the maps of xs and ys is the map of zs: a file of len bytes with k overflow entries, read as zs, whose sum is told
abbrev pub Gives : SlotOp → List ℕ → List ℕ → List ℕ → ℕ → ℕ → ℕ → Type 0
Gives o xs ys zs k len sum =
    (combine_maps_outcome o (file_of xs) (file_of ys) len ≡ Ok (told 4 k 0 0 len sum))
    × (combine_maps_buffer o (file_of xs) (file_of ys) (replicate (len + 3) 7) ≡ file_of zs ++ (7 ∷ 7 ∷ 7 ∷ []))
    × (list_of (file_of zs) ≡ zs)

pub cases :
    -- empty map: L = 40, k = 0
    ((length (file_of []) ≡ 40) × ((summary_of []).k ≡ 0) × (check_file 1 (file_of []) ≡ Ok (told 0 0 0 0 40 0)))
    -- primary of A: 00 FE FF FF, L = 68
    × ((primary_part (file_of A) ≡ 0x00 ∷ 0xFE ∷ 0xFF ∷ 0xFF ∷ [])
    × (length (file_of A) ≡ 68)
    × (check_file 1 (file_of A) ≡ Ok (told 4 2 0 0 68 809)))
    -- overflow entries of A: slot 2 has 255, slot 3 has 300
    × ((overflow_slots 4 (at A) ≡ 2 ∷ 3 ∷ [])
    × (lookup_outcome (file_of A) 2 ≡ Ok (found 255 (Overflow 0)))
    × (lookup_outcome (file_of A) 3 ≡ Ok (found 300 (Overflow 1)))
    × (drop 44 (file_of A)
    ≡ 2 ∷ 0 ∷ 0 ∷ 0 ∷ 0 ∷ 0 ∷ 0 ∷ 0 ∷ 0xFF ∷ 0x00 ∷ 0x00 ∷ 0x00
    ∷ 3 ∷ 0 ∷ 0 ∷ 0 ∷ 0 ∷ 0 ∷ 0 ∷ 0 ∷ 0x2C ∷ 0x01 ∷ 0x00 ∷ 0x00 ∷ []))
    -- minimum of A and B
    × Gives Minimum A B (0 ∷ 1 ∷ 1 ∷ 300 ∷ []) 1 56 302
    -- maximum of A and B
    × Gives Maximum A B (1 ∷ 254 ∷ 255 ∷ 4294967295 ∷ []) 2 68 4294967805
    -- sum of A and B: refusal 11 at place 3, and the buffer is unchanged
    × ((combine_maps_outcome Sum (file_of A) (file_of B) 99 ≡ refuse DistanceOverflow 0 3)
    × (combine_maps_buffer Sum (file_of A) (file_of B) (replicate 99 7) ≡ replicate 99 7))
    -- A + (1, 1, 1, 1), L = 80
    × Gives Sum A (1 ∷ 1 ∷ 1 ∷ 1 ∷ []) (1 ∷ 255 ∷ 256 ∷ 301 ∷ []) 3 80 813
    -- difference A - B, L = 44
    × Gives Difference A B (0 ∷ 253 ∷ 254 ∷ 0 ∷ []) 0 44 507
    -- difference B - A
    × Gives Difference B A (1 ∷ 0 ∷ 0 ∷ 4294966995 ∷ []) 1 56 4294966996
    -- mask of A, at most 254: one word, 3
    × ((threshold_outcome AtMost (file_of A) 254 1 ≡ Ok 1)
    × (threshold_words AtMost (file_of A) 254 (7 ∷ 7 ∷ []) ≡ 3 ∷ 7 ∷ []))
    -- mask of A, at least 255: one word, 12, with two set bits
    × ((threshold_outcome AtLeast (file_of A) 255 1 ≡ Ok 1)
    × (threshold_words AtLeast (file_of A) 255 (7 ∷ 7 ∷ []) ≡ 12 ∷ 7 ∷ [])
    × (set_bits 4 (12 ∷ []) ≡ 2)
    × (set_bits_outcome 4 (12 ∷ []) ≡ Ok 2))
    -- edit of A, slot 2 to 254: L = 56, and bytes 56 to 67 become 0
    × ((edit_outcome (file_of A) (set_to 2 254) ≡ Ok (told 4 1 0 0 56 808))
    × (edit_buffer (file_of A) (set_to 2 254) ≡ file_of (0 ∷ 254 ∷ 254 ∷ 300 ∷ []) ++ replicate 12 0)
    × (drop 56 (edit_buffer (file_of A) (set_to 2 254)) ≡ replicate 12 0))
unfolding
    first_from first_below table positions joined sum_from le number get index_step index_len file_len primary
    overflow_slots overflow_count overflow_entry overflow_part index_entry index_part header file counts_of summary
    wrong_entry bad_entry entry_of bad_slot value_of bad_index_entry bad_counts check_parts check_header check_with
    list_of total primary_part lookup_outcome bit_at mask_has word mask_of bad_mask set_bits set_bits_outcome
    threshold_outcome threshold_words combine_maps_outcome combine_maps_buffer
    plain_outcome edited_file edit_outcome replaced edit_buffer
cases = (
  (refl, refl, refl),
  (refl, refl, refl),
  (refl, refl, refl, refl),
  (refl, refl, refl),
  (refl, refl, refl),
  (refl, refl),
  (refl, refl, refl),
  (refl, refl, refl),
  (refl, refl, refl),
  (refl, refl),
  (refl, refl, refl, refl),
  (refl, refl, refl),
)

-- a file of n slots, k of them in overflow
abbrev pub LengthRow : ℕ → ℕ → ℕ → ℕ → ℕ → Type 0
LengthRow n k step m len = (index_step k ≡ step) × (index_len k ≡ m) × (file_len n k ≡ len)

-- the columns are n, k, step, m and L
pub lengths :
    LengthRow 5000 2048 0 0 29616
    × LengthRow 5000 2049 2 1025 46028
    × LengthRow 5000 4096 2 2048 86960
    × LengthRow 5000 4097 3 1366 76060
    × LengthRow 1048576 1048576 512 2048 13664296
    -- one overflow entry fewer can need more bytes
    × (file_len 5000 4096 ≡ file_len 5000 4097 + 10900)
unfolding index_step index_len file_len
lengths = ((refl, refl, refl), (refl, refl, refl), (refl, refl, refl), (refl, refl, refl), (refl, refl, refl), refl)

pub examples :
    -- edit of A, slot 1 to 255, in a buffer of 79 bytes and in one of 80
    (edit_outcome (file_of A ++ replicate 11 7) (set_to 1 255) ≡ refuse BufferTooSmall 0 0)
    × (edit_buffer (file_of A ++ replicate 11 7) (set_to 1 255) ≡ file_of A ++ replicate 11 7)
    × (edit_outcome (file_of A ++ replicate 12 7) (set_to 1 255) ≡ Ok (told 4 3 0 0 80 810))
    × (edit_buffer (file_of A ++ replicate 12 7) (set_to 1 255) ≡ file_of (0 ∷ 255 ∷ 255 ∷ 300 ∷ []))
    -- Bray-Curtis of (3) and (1): 0.5
    × (bray_curtis_outcome (file_of (3 ∷ [])) (file_of (1 ∷ [])) ≡ Ok (of_bits binary64 0x3FE0000000000000))
    -- n = 0, 64, 65: 0, 1, 2 mask words
    × (mask_len 0 ≡ 0) × (mask_len 64 ≡ 1) × (mask_len 65 ≡ 2)
    -- the report of A, in ASCII: slots 4, far 2, step 0, index 0, sum 809, readings 3, a line each
    × (report_text (file_of A)
    ≡ 115 ∷ 108 ∷ 111 ∷ 116 ∷ 115 ∷ 32 ∷ 52 ∷ 10
    ∷ 102 ∷ 97 ∷ 114 ∷ 32 ∷ 50 ∷ 10
    ∷ 115 ∷ 116 ∷ 101 ∷ 112 ∷ 32 ∷ 48 ∷ 10
    ∷ 105 ∷ 110 ∷ 100 ∷ 101 ∷ 120 ∷ 32 ∷ 48 ∷ 10
    ∷ 115 ∷ 117 ∷ 109 ∷ 32 ∷ 56 ∷ 48 ∷ 57 ∷ 10
    ∷ 114 ∷ 101 ∷ 97 ∷ 100 ∷ 105 ∷ 110 ∷ 103 ∷ 115 ∷ 32 ∷ 51 ∷ 10 ∷ [])
    -- the report of no bytes at all: refused 1 map 1 place 0
    × (report_text []
    ≡ 114 ∷ 101 ∷ 102 ∷ 117 ∷ 115 ∷ 101 ∷ 100 ∷ 32 ∷ 49 ∷ 32
    ∷ 109 ∷ 97 ∷ 112 ∷ 32 ∷ 49 ∷ 32
    ∷ 112 ∷ 108 ∷ 97 ∷ 99 ∷ 101 ∷ 32 ∷ 48 ∷ 10 ∷ [])
unfolding
    first_from first_below table positions joined sum_from le number get index_step index_len file_len primary
    overflow_slots overflow_count overflow_entry overflow_part index_entry index_part header file counts_of summary
    wrong_entry bad_entry entry_of bad_slot value_of bad_index_entry bad_counts check_parts check_header check_with
    list_of total readings plain_outcome edited_file edit_outcome replaced edit_buffer
    quotient distance_between bray_curtis_outcome of_bits of_int div
    digits decimal field line map_lines refused_line report_text
examples = (refl, refl, refl, refl, refl, refl, refl, refl, refl, refl)

-- 64 slots at 1 and one at 300: two mask words
abbrev pub M : List ℕ
M = replicate 64 1 ++ (300 ∷ [])

abbrev pub ones : ℕ
ones = 0xFFFFFFFFFFFFFFFF

abbrev pub primary_of_a : List ℕ
primary_of_a = 0x00 ∷ 0xFE ∷ 0xFF ∷ 0xFF ∷ []

abbrev pub looked_up : List ℕ
looked_up = 3 ∷ 0 ∷ 3 ∷ 2 ∷ []

pub further :
    -- lookups of slots 1 and 4 of A; of slots 3, 0, 3, 2, the numbers with k = 2 for slot 0; with a slot outside; with
    -- either list too short; of no slots; of a map without overflow entries
    ((lookup_outcome (file_of A) 1 ≡ Ok (found 254 Inline)) × (lookup_outcome (file_of A) 4 ≡ refuse SlotOutOfRange 0 0))
    × ((lookup_list_outcome (file_of A) looked_up 5 4 ≡ Ok 4)
    × (lookup_list_buffer (file_of A) looked_up 4 (7 ∷ 7 ∷ 7 ∷ 7 ∷ 7 ∷ []) ≡ 300 ∷ 0 ∷ 300 ∷ 255 ∷ 7 ∷ [])
    × (lookup_list_entries (file_of A) looked_up 4 (7 ∷ 7 ∷ 7 ∷ 7 ∷ 7 ∷ []) ≡ 1 ∷ 2 ∷ 1 ∷ 0 ∷ 7 ∷ []))
    × (lookup_list_outcome (file_of A) (3 ∷ 4 ∷ 5 ∷ []) 3 0 ≡ refuse SlotOutOfRange 0 1)
    × ((lookup_list_outcome (file_of A) looked_up 3 4 ≡ refuse BufferTooSmall 0 0)
    × (lookup_list_outcome (file_of A) looked_up 4 3 ≡ refuse BufferTooSmall 0 0)
    × (lookup_list_buffer (file_of A) looked_up 3 (7 ∷ 7 ∷ 7 ∷ 7 ∷ []) ≡ 7 ∷ 7 ∷ 7 ∷ 7 ∷ [])
    × (lookup_list_entries (file_of A) looked_up 3 (7 ∷ 7 ∷ 7 ∷ 7 ∷ []) ≡ 7 ∷ 7 ∷ 7 ∷ 7 ∷ []))
    × (lookup_list_outcome (file_of A) [] 0 0 ≡ Ok 0)
    × (lookup_list_entries (file_of (8 ∷ 9 ∷ [])) (1 ∷ []) 1 (7 ∷ []) ≡ 0 ∷ [])
    -- all of A; the file of A, from its list and from its parts
    × (scan_buffer (file_of A) (7 ∷ 7 ∷ 7 ∷ 7 ∷ 7 ∷ []) ≡ A ++ (7 ∷ []))
    × (write_buffer A (replicate 69 7) ≡ file_of A ++ (7 ∷ []))
    × (close_buffer (0 ∷ 254 ∷ 255 ∷ 255 ∷ []) (2 ∷ 3 ∷ []) (255 ∷ 300 ∷ []) (replicate 69 7) ≡ file_of A ++ (7 ∷ []))
    × (close_outcome (0 ∷ 254 ∷ 255 ∷ 255 ∷ []) (2 ∷ 3 ∷ []) (255 ∷ []) 99 ≡ refuse BadOverflowEntry 1 1)
    -- the check of A in 71 bytes; of a distance of 2 ^ 32 - 1 beside three of 1; without the sum
    × (check_buffer 1 (file_of A ++ replicate 3 7) ≡ Ok (told 4 2 0 0 68 809))
    × (check_file 1 (file_of B) ≡ Ok (told 4 1 0 0 56 4294967298))
    × (counts_file 2 (file_of A) ≡ Ok (record { n = 4; k = 2; m = 0; step = 0; len = 68 }))
    -- the sum of A, and where A is written; after slot 2 to 254, in the list and as the check of the buffer answers it
    × ((sum_outcome (file_of A) ≡ Ok 809) × (file_into 4 (at A) 68 ≡ Ok (told 4 2 0 0 68 809)))
    × ((total (edited A (set_to 2 254)) + 255 ≡ total A + 254)
    × (check_buffer 1 (edit_buffer (file_of A) (set_to 2 254)) ≡ Ok (told 4 1 0 0 56 808)))
    -- the primary bytes of A have 3 readings, as have maps with that primary array; the empty array has none
    × (readings primary_of_a ≡ 3)
    × ((primary_part (file_of A) ≡ primary_of_a) × (readings A ≡ 3))
    × ((primary_part (file_of (0 ∷ 254 ∷ 4294967295 ∷ 256 ∷ [])) ≡ primary_of_a)
    × (readings (0 ∷ 254 ∷ 4294967295 ∷ 256 ∷ []) ≡ 3))
    × (primary_part (file_of primary_of_a) ≡ primary_of_a)
    × ((primary_part (file_of []) ≡ []) × (readings [] ≡ 0))
    -- an edit of A in 71 bytes to the same distance; slot 2 to 254: 12 bytes freed, and those behind the file stay
    × (edit_outcome (file_of A ++ replicate 3 7) (set_to 3 300) ≡ Ok (told 4 2 0 0 68 809))
    × (edit_buffer (file_of A ++ replicate 3 7) (set_to 3 300) ≡ file_of A ++ replicate 3 7)
    × (edit_buffer (file_of A ++ replicate 3 7) (set_to 2 254)
    ≡ file_of (0 ∷ 254 ∷ 254 ∷ 300 ∷ []) ++ (replicate 12 0 ++ replicate 3 7))
    -- edits of A in 69 bytes: slot 2 to 254, slot 4, slot 0 to 7
    × (edit_list_outcome (file_of A ++ (7 ∷ [])) (2 ∷ 4 ∷ 0 ∷ []) (254 ∷ 1 ∷ 7 ∷ []) 31 ≡ Ok 3)
    × (edit_list_buffer (file_of A ++ (7 ∷ [])) (2 ∷ 4 ∷ 0 ∷ []) (254 ∷ 1 ∷ 7 ∷ []) 31
    ≡ file_of (7 ∷ 254 ∷ 254 ∷ 300 ∷ []) ++ (replicate 12 0 ++ (7 ∷ [])))
    × (edit_list_answers (file_of A ++ (7 ∷ [])) (2 ∷ 4 ∷ 0 ∷ []) (254 ∷ 1 ∷ 7 ∷ []) (replicate 31 7)
    ≡ 0 ∷ 0 ∷ 0 ∷ 4 ∷ 1 ∷ 0 ∷ 0 ∷ 56 ∷ 808 ∷ 1
    ∷ 9 ∷ 0 ∷ 0 ∷ 0 ∷ 0 ∷ 0 ∷ 0 ∷ 0 ∷ 0 ∷ 0
    ∷ 0 ∷ 0 ∷ 0 ∷ 4 ∷ 1 ∷ 0 ∷ 0 ∷ 56 ∷ 815 ∷ 0 ∷ 7 ∷ [])
    × (edit_list_outcome (file_of A) (2 ∷ 4 ∷ []) (254 ∷ []) 31 ≡ refuse SlotOutOfRange 0 1)
    -- entries moved in A: slot 2 to 254; slot 1 to 255 in 80 bytes and, refused, in 79; slot 3 to 7; slot 3 to 400; slot 4.
    -- In 300, 0, 300 slot 1 to 255. The two entries, in the files of A and of A with slot 1 at 255
    × ((edit_moved (file_of A) (set_to 2 254) ≡ 1)
    × (edit_moved (file_of A ++ replicate 12 7) (set_to 1 255) ≡ 2)
    × (edit_moved (file_of A ++ replicate 11 7) (set_to 1 255) ≡ 0)
    × (edit_moved (file_of A) (set_to 3 7) ≡ 0)
    × (edit_moved (file_of A) (set_to 3 400) ≡ 0)
    × (edit_moved (file_of A) (set_to 4 255) ≡ 0))
    × (edit_moved (file_of (300 ∷ 0 ∷ 300 ∷ []) ++ replicate 12 7) (set_to 1 255) ≡ 1)
    × (positions (renumbered (file_of A) (file_of (0 ∷ 255 ∷ 255 ∷ 300 ∷ [])) 1) 0 4 ≡ 2 ∷ 3 ∷ [])
    -- masks of M: below 300, above 299
    × (threshold_words Below (file_of M) 300 (7 ∷ 7 ∷ 7 ∷ []) ≡ ones ∷ 0 ∷ 7 ∷ [])
    × (threshold_words Above (file_of M) 299 (7 ∷ 7 ∷ 7 ∷ []) ≡ 0 ∷ 1 ∷ 7 ∷ [])
    × (threshold_outcome Above (file_of M) 299 1 ≡ refuse BufferTooSmall 0 0)
    -- near masks of A at 254, 255 and 0; of M at 299; of the empty map
    × ((near_mask_outcome (file_of A) 254 1 ≡ Ok 1) × (near_mask_words (file_of A) 254 (7 ∷ 7 ∷ []) ≡ 2 ∷ 7 ∷ []))
    × (near_mask_words (file_of A) 255 (7 ∷ 7 ∷ []) ≡ 6 ∷ 7 ∷ [])
    × (near_mask_words (file_of A) 0 (7 ∷ 7 ∷ []) ≡ 0 ∷ 7 ∷ [])
    × (near_mask_words (file_of M) 299 (7 ∷ 7 ∷ 7 ∷ []) ≡ ones ∷ 0 ∷ 7 ∷ [])
    × ((near_mask_outcome (file_of []) 4294967295 0 ≡ Ok 0) × (near_mask_words (file_of []) 4294967295 (7 ∷ []) ≡ 7 ∷ []))
    -- masks of masks: slots 0, 1 and slots 1, 2 of four; the complement of slot 64 of 65; bit 4 is past four slots
    × (combine_words And 4 (3 ∷ []) (6 ∷ []) (7 ∷ []) ≡ 2 ∷ [])
    × (combine_words Or 4 (3 ∷ []) (6 ∷ []) (0 ∷ []) ≡ 7 ∷ [])
    × (combine_words Xor 4 (3 ∷ []) (6 ∷ []) (7 ∷ []) ≡ 5 ∷ [])
    × (complement_words 65 (0 ∷ 1 ∷ []) (7 ∷ 7 ∷ 7 ∷ []) ≡ ones ∷ 0 ∷ 7 ∷ [])
    × (set_bits_outcome 65 (ones ∷ 1 ∷ []) ≡ Ok 65)
    × (set_bits_outcome 4 (16 ∷ []) ≡ refuse BadMask 0 0)
    × (set_bits_outcome 1048577 [] ≡ refuse TooManySlots 1 0)
    -- files from masks: slots 2 and 3; A kept at slots 1 and 3; A plus 1 at slots 1 and 2; B plus 1 at slot 3
    × (map_of_mask_buffer 4 (12 ∷ []) (replicate 45 7) ≡ file_of (0 ∷ 0 ∷ 1 ∷ 1 ∷ []) ++ (7 ∷ []))
    × (keep_masked_buffer (file_of A) (10 ∷ []) (replicate 57 7) ≡ file_of (0 ∷ 254 ∷ 0 ∷ 300 ∷ []) ++ (7 ∷ []))
    × (increment_masked_buffer (file_of A) (6 ∷ []) (replicate 81 7) ≡ file_of (0 ∷ 255 ∷ 256 ∷ 300 ∷ []) ++ (7 ∷ []))
    × (increment_masked_outcome (file_of B) (8 ∷ []) 99 ≡ refuse DistanceOverflow 0 3)
    -- Jaccard of A and B at 255: one slot in exactly one, two in either
    × (jaccard_outcome 255 (file_of A) (file_of B) ≡ Ok (of_bits binary64 0x3FE0000000000000))
    -- A shifted by -300, with as many readings as A has, and by -255, 0, 1 and 300; distances 1, 5 and 0; B and the empty
    -- map shifted; B - A
    × ((shift_buffer (file_of A) (negsuc 299) (replicate 45 7) ≡ file_of (0 ∷ 1 ∷ 1 ∷ 1 ∷ []) ++ (7 ∷ []))
    × (readings (0 ∷ 1 ∷ 1 ∷ 1 ∷ []) ≡ readings A))
    × (shift_buffer (file_of A) (negsuc 254) (replicate 45 7) ≡ file_of (0 ∷ 1 ∷ 1 ∷ 45 ∷ []) ++ (7 ∷ []))
    × (shift_buffer (file_of A) (pos 0) (replicate 69 7) ≡ file_of A ++ (7 ∷ []))
    × (shift_buffer (file_of A) (pos 1) (replicate 81 7) ≡ file_of (0 ∷ 255 ∷ 256 ∷ 301 ∷ []) ++ (7 ∷ []))
    × ((shift_outcome (file_of A) (pos 300) 80 ≡ Ok (told 4 3 0 0 80 1709))
    × (shift_buffer (file_of A) (pos 300) (replicate 81 7) ≡ file_of (0 ∷ 554 ∷ 555 ∷ 600 ∷ []) ++ (7 ∷ [])))
    × ((shifted_by (negsuc 0) 1 ≡ 1) × (shifted_by (negsuc 4) 5 ≡ 1) × (shifted_by (negsuc 2147483647) 5 ≡ 1))
    × ((shifted_by (pos 2147483647) 0 ≡ 0) × (shifted_by (negsuc 2147483647) 0 ≡ 0))
    × (shift_outcome (file_of B) (pos 1) 99 ≡ refuse DistanceOverflow 0 3)
    × (shift_outcome (file_of []) (pos 300) 40 ≡ Ok (told 0 0 0 0 40 0))
    × (signed_difference_list (file_of A) (file_of B) (pos 7 ∷ pos 7 ∷ pos 7 ∷ pos 7 ∷ pos 7 ∷ [])
    ≡ pos 1 ∷ negsuc 252 ∷ negsuc 253 ∷ pos 4294966995 ∷ pos 7 ∷ [])
unfolding
    first_from first_below table positions joined sum_from le number get index_step index_len file_len primary
    overflow_slots overflow_count overflow_entry overflow_part index_entry index_part header file counts_of summary
    wrong_entry bad_entry entry_of bad_slot value_of bad_index_entry bad_counts check_parts check_header check_with
    list_of total primary_part readings bit_at mask_has word mask_of bad_mask threshold_outcome threshold_words
    near_mask_outcome near_mask_words combine_outcome combine_words
    complement_outcome complement_words set_bits set_bits_outcome map_of_mask_outcome map_of_mask_buffer
    keep_masked_outcome keep_masked_buffer increment_masked_outcome increment_masked_buffer
    quotient count_at jaccard_outcome of_bits of_int div shifted_by shift_outcome shift_buffer
    signed_differences signed_difference_outcome signed_difference_list xor
    lookup_outcome lookup_list_outcome lookup_list_buffer lookup_list_entries scan_outcome scan_buffer sum_outcome
    write_outcome write_buffer close_outcome close_buffer
    plain_outcome edited_file edit_outcome replaced edit_buffer entries_above moved_by plain_moved edit_moved
    plain_start plain_step plain_run plain_outcomes plain_moves buffer_of answer_cells all_cells edits_of
    edit_list_outcome edit_list_buffer edit_list_answers
further = (
  (refl, refl),
  (refl, refl, refl),
  refl,
  (refl, refl, refl, refl),
  refl,
  refl,
  refl,
  refl,
  refl,
  refl,
  refl,
  refl,
  refl,
  (refl, refl),
  (refl, refl),
  refl,
  (refl, refl),
  (refl, refl),
  refl,
  (refl, refl),
  refl,
  refl,
  refl,
  refl,
  refl,
  refl,
  refl,
  (refl, refl, refl, refl, refl, refl),
  refl,
  refl,
  refl,
  refl,
  refl,
  (refl, refl),
  refl,
  refl,
  refl,
  (refl, refl),
  refl,
  refl,
  refl,
  refl,
  refl,
  refl,
  refl,
  refl,
  refl,
  refl,
  refl,
  refl,
  (refl, refl),
  refl,
  refl,
  refl,
  (refl, refl),
  (refl, refl, refl),
  (refl, refl),
  refl,
  refl,
  refl,
)
