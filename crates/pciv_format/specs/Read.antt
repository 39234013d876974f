-- What the check and the reading routines answer (docs/FORMAT.md, "Refusals" and "Reading").
--   value_at b i      the distance that a file b has at slot i
--   list_of b         the list that a file b is read as
--   total xs, readings xs    the sum of all distances, and how many are not 0; of bytes likewise
--   with_sum o sum    the counts of o with that sum, as a summary; a refusal stays
--   check_file mp b, check_buffer mp b    the check of a whole file, as map mp, and of a buffer to be edited: the summary
--   primary_part b    the primary bytes of b, a part of b; empty where b is refused
--   only_done o l, bytes_before o    l, or nothing where o is a refusal; the bytes before the primary part
--   behind i p       the place i bytes behind the place p
--   primary_place b p    where the primary part of b starts, if b starts at p
--   entry_number b i  the number of the overflow entry of slot i in a file b, or k
--   origin_of k j, origin_number k o    the origin that the number j tells, of k entries; the number that tells the origin o
--   located x k j    distance x with the origin that j tells
--   lookup_outcome            one slot
--   items_into c capacity     c items into a list that holds `capacity` of them: how many, or refusal 12
--   lookup_list_outcome        a list of slots, into lists of c₁ and c₂ elements
--   lookup_list_buffer, lookup_list_entries    the distances in the first of them, the numbers of the entries in the second
--   scan_outcome, scan_buffer  all slots, into a list
--   sum_outcome, readings_outcome    these of a file
-- Laws are in proofs/ReadLaws.antt, of the check in proofs/Acceptance.antt and SummaryLaws.antt, of readings in
-- ReadingsLaws.antt, of origins in OriginLaws.antt, of the outcomes case by case in ReadCaseLaws.antt. Axioms: none.
use Rattle.std.specs.Prelude.{Ok, Err}
use Rattle.pciv_format.specs.declared.RefusalKind.TheVariants.{SlotOutOfRange, BufferTooSmall}
use Rattle.std.specs.Prelude.{ℕ, ◌+◌, min, not, cond, List, [], map, length, take, drop, ltb, leb, eqb}
use Rattle.pciv_bytes.specs.Ranges.{flag, table, sum_from}
use Rattle.pciv_format.specs.Layout.{summarize, at}
use Rattle.pciv_format.specs.Refusals.{Outcome, refuse, refuse_if, refuse_first, and_then, written}
use Rattle.pciv_format.specs.Parts.{entry_of, value_of}
use Rattle.pciv_format.specs.Check.{n_field, k_field, file_parts, counts_file, counts_buffer}
use Rattle.pciv_format.specs.declared.Counts.{Counts}
use Rattle.pciv_format.specs.declared.Summary.{Summary}
use Rattle.pciv_format.specs.declared.Origin.{Origin}
use Rattle.pciv_format.specs.declared.Origin.TheVariants.{Inline, Overflow}
use Rattle.pciv_format.specs.declared.Located.{Located}

-- the distance that a file b has at slot i
abbrev pub value_at : List ℕ → ℕ → ℕ
value_at b i = value_of (file_parts b (n_field b) (k_field b)) i

unfoldable pub list_of : List ℕ → List ℕ
list_of b = table (value_at b) 0 (n_field b)

-- ---- totals

unfoldable pub total : List ℕ → ℕ
total xs = sum_from (at xs) 0 (length xs)

-- how many are not 0: of distances these are the readings, and of a map's primary bytes there are as many
unfoldable pub readings : List ℕ → ℕ
readings xs = sum_from (λ (i : ℕ). flag (not (eqb (at xs i) 0))) 0 (length xs)

-- ---- the check

-- the counts, with the sum as the sixth number
abbrev pub with_sum : Outcome Counts → ℕ → Outcome Summary
with_sum o sum = and_then o (λ c. Ok (summarize c sum))

abbrev pub check_file : ℕ → List ℕ → Outcome Summary
check_file mp b = with_sum (counts_file mp b) (total (list_of b))

-- of the file at the front of the buffer
abbrev pub check_buffer : ℕ → List ℕ → Outcome Summary
check_buffer mp b = with_sum (counts_buffer mp b) (total (list_of b))

-- ---- the primary part

abbrev pub only_done : Outcome Counts → List ℕ → List ℕ
only_done (Ok s) l = l
only_done (Err r) l = []

unfoldable pub primary_part : List ℕ → List ℕ
primary_part b = only_done (counts_file 1 b) (take (n_field b) (drop 40 b))

-- a place is a block of memory and an offset in it, as `ref_ptr` of a reference is
abbrev pub behind : ℕ → ℕ × ℕ → ℕ × ℕ
behind i p = (p.0, i + p.1)

-- how many bytes of a file stand before its primary part; 0 for a refused one, whose part has length 0, is chosen here
abbrev pub bytes_before : Outcome Counts → ℕ
bytes_before (Ok s) = 40
bytes_before (Err r) = 0

unfoldable pub primary_place : List ℕ → ℕ × ℕ → ℕ × ℕ
primary_place b p = behind (bytes_before (counts_file 1 b)) p

-- ---- where a distance is stored

-- the number of the overflow entry of slot i, from 0, or k where the distance there is inline
abbrev pub entry_number : List ℕ → ℕ → ℕ
entry_number b i = entry_of (file_parts b (n_field b) (k_field b)) i

abbrev pub origin_of : ℕ → ℕ → Origin
origin_of k j = cond (ltb j k) (Overflow j) Inline

abbrev pub origin_number : ℕ → Origin → ℕ
origin_number k Inline = k
origin_number k (Overflow j) = j

abbrev pub located : ℕ → ℕ → ℕ → Located
located x k j = record { distance = x; origin = origin_of k j }

-- ---- lookup and scan

unfoldable pub lookup_outcome : List ℕ → ℕ → Outcome Located
lookup_outcome b slot =
    and_then (counts_file 1 b)
    (λ s. refuse_if (leb s.n slot) (refuse SlotOutOfRange 0 0) (Ok (located (at (list_of b) slot) (k_field b) (entry_number b slot))))

-- c items into a list that holds `capacity` of them; the answer is how many were written
abbrev pub items_into : ℕ → ℕ → Outcome ℕ
items_into c capacity = refuse_if (ltb capacity c) (refuse BufferTooSmall 0 0) (Ok c)

-- both lists get an item for each slot, so the shorter one has to hold them
unfoldable pub lookup_list_outcome : List ℕ → List ℕ → ℕ → ℕ → Outcome ℕ
lookup_list_outcome b slots c₁ c₂ =
    and_then (counts_file 1 b)
    (λ s. refuse_first SlotOutOfRange 0 (λ (i : ℕ). leb s.n (at slots i)) (length slots) (items_into (length slots) (min c₁ c₂)))

-- the first list afterwards, where the second has c₂ elements
unfoldable pub lookup_list_buffer : List ℕ → List ℕ → ℕ → List ℕ → List ℕ
lookup_list_buffer b slots c₂ out =
    written (lookup_list_outcome b slots (length out) c₂) (map (at (list_of b)) slots) out

-- the second list afterwards, where the first has c₁ elements
unfoldable pub lookup_list_entries : List ℕ → List ℕ → ℕ → List ℕ → List ℕ
lookup_list_entries b slots c₁ out =
    written (lookup_list_outcome b slots c₁ (length out)) (map (entry_number b) slots) out

unfoldable pub scan_outcome : List ℕ → ℕ → Outcome ℕ
scan_outcome b capacity = and_then (counts_file 1 b) (λ s. items_into s.n capacity)

unfoldable pub scan_buffer : List ℕ → List ℕ → List ℕ
scan_buffer b out = written (scan_outcome b (length out)) (list_of b) out

-- ---- totals of a file

unfoldable pub sum_outcome : List ℕ → Outcome ℕ
sum_outcome b = and_then (counts_file 1 b) (λ s. Ok (total (list_of b)))

unfoldable pub readings_outcome : List ℕ → Outcome ℕ
readings_outcome b = and_then (counts_file 1 b) (λ s. Ok (readings (list_of b)))
