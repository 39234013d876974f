-- Every routine on the files of lists (docs/PROMISES.md, "Lists"): for lists within the limits and any other
-- arguments, its answer and what the caller's buffer or list holds afterwards are those of the arithmetic on the
-- lists, refusals 9 to 13 included. Nothing on a right-hand side reads a file.
--   Writes                what a routine answers and leaves, whatever buffer or list it gets
--   file-primary, file-primary_place, file-lookup, file-scan, file-sum, file-readings    reading
--   lookups_into, file-lookup_list, file-lookup_entries    a list of lookups: the outcome, and each of the two lists
--   file-select           masks of a map: file-threshold, file-near_mask
--   shifted_at, masked_at, masked_into    a shifted distance, a masked one, and the outcome of a masked map
--   file-shift, file-masked            maps from one file; the latter: file-keep_masked, file-increment_masked
--   refuse_sizes, file-pair             refusal 10; the check of two files
--   file-combine_maps, file-signed_difference, file-bray_curtis, file-jaccard    two files
--   report_of, file-report_text, file-report    the report
--   run_into, front-edit, front-edit_list       the editor, on a buffer with a list's file at its front
--   ReadAs, WritesMap     a written map is accepted with the routine's answer, and is read as the list of results
--   front_read            the file of a list is, with any bytes behind it
--   Writable, map_read    that, once for all routines that write a computed map
--   written-summary       the answer of writing a map is that of the check of its file
--   write_read, shift-read, masked-read, keep_masked-read, increment_masked-read, combine_maps-read, map_of_mask-read,
--   close-read            that of each of them
--   overflow_distances     the distances in overflow, in order of their slots
--   map-close             close accepts the parts of every map, and writes the map's file
-- Check is `file-accepted` (Acceptance.antt), and of a buffer `front-check` (SummaryLaws.antt). The routines on masks
-- alone (and, or, xor, complement, set_bits, map_of_mask) are given no file: their definitions are on the words.
-- Axioms: none.
use Rattle.std.proofs.Common.{Ok}
use Rattle.pciv_format.specs.declared.RefusalKind.TheVariants.{BadOverflowEntry, MissingOverflowEntry, SlotOutOfRange, SizeMismatch, DistanceOverflow, BufferTooSmall, BadMask}
use mathlib.Core.Path.{◌≡◌, refl, sym, ap, ◌∙◌}
use Prim.Native.Nat.{ℕ, ◌+◌, ◌*◌, ◌≤◌, ◌<◌, min}
use native.Mathlib.Omega.{arith}
use native.Mathlib.Decide.{dec_le}
use mathlib.Core.Bool.{Bool, not, ◌||◌, xor}
use mathlib.Core.List.{List, ◌++◌, map}
use lib.ListN.{length, get_or, take, drop, length-map, get_or-eq_default}
use lib.Seq.{take_at, drop_at}
use lib.Dec.{ltb, leb, eqb}
use lib.IntN.{ℤ}
use borrow.Author.Tests.{ltb-false, le-ltb}
use Rattle.pciv_bytes.specs.Ranges.{table}
use Rattle.pciv_bytes.specs.LittleEndian.{Bytes}
use Rattle.pciv_bytes.proofs.RangesLaws.{get_or-inside, get_or-map_inside, map-cong}
use Rattle.pciv_format.specs.Layout.{max_slots, max_distance, primary, overflow_slots}
use Rattle.pciv_format.specs.Layout.{overflow_count, header, file, counts_of, summary, at, file_of}
use Rattle.pciv_format.specs.Layout.{summary_of, Limits}
use Rattle.pciv_format.specs.Refusals.{Outcome, refuse, refuse_if, refuse_first, written}
use Rattle.pciv_format.specs.Parts.{Parts, bad_entry, bad_slot, value_of, SoundParts}
use Rattle.pciv_format.specs.Check.{file_parts}
use Rattle.pciv_format.specs.Read.{list_of, primary_part, behind, primary_place, lookup_outcome}
use Rattle.pciv_format.specs.Read.{entry_number, items_into, lookup_list_outcome, lookup_list_buffer}
use Rattle.pciv_format.specs.Read.{lookup_list_entries, scan_outcome, scan_buffer, total, readings}
use Rattle.pciv_format.specs.Read.{check_file, sum_outcome, readings_outcome}
use Rattle.pciv_format.specs.Write.{file_into, map_into, write_outcome, write_buffer, close_parts}
use Rattle.pciv_format.specs.Write.{close_outcome, close_buffer}
use Rattle.pciv_format.specs.Mask.{mask_len, mask_has, mask_of, bad_mask, holds, is_near, select_outcome}
use Rattle.pciv_format.specs.Mask.{select_words, threshold_outcome, threshold_words, near_mask_outcome}
use Rattle.pciv_format.specs.Mask.{near_mask_words, mask_value, map_of_mask_outcome, map_of_mask_buffer}
use Rattle.pciv_format.specs.Mask.{masked_outcome, masked_buffer, kept_if, keep_masked_outcome}
use Rattle.pciv_format.specs.Mask.{keep_masked_buffer, plus_if, increment_masked_outcome}
use Rattle.pciv_format.specs.Mask.{increment_masked_buffer}
use Rattle.pciv_format.specs.Arith.{pair_outcome, combined_at, combine_maps_outcome, combine_maps_buffer}
use Rattle.pciv_format.specs.Arith.{shifted_by, shift_outcome, shift_buffer, signed_differences}
use Rattle.pciv_format.specs.Arith.{signed_difference_outcome, signed_difference_list}
use Rattle.pciv_format.specs.Figures.{quotient, distance_between, bray_curtis_outcome, count_at, jaccard_outcome}
use Rattle.pciv_format.specs.Edit.{Edit, edited, plain_outcome, edit_outcome, replaced, if_accepted}
use Rattle.pciv_format.specs.Edit.{edit_buffer, plain_moved, edit_moved, plain_start, plain_run, plain_outcomes}
use Rattle.pciv_format.specs.Edit.{plain_moves, buffer_of, answer_len, all_cells, edits_of, edit_list_outcome}
use Rattle.pciv_format.specs.Edit.{edit_list_buffer, edit_list_answers}
use Rattle.pciv_format.specs.Report.{text_of, report_text, report_outcome, report_buffer}
use Rattle.pciv_format.specs.declared.Summary.{Summary}
use Rattle.pciv_format.specs.declared.SlotOp.{SlotOp}
use Rattle.pciv_format.specs.declared.Comparison.{Comparison}
use Rattle.pciv_format.proofs.PartsLaws.{primary_byte-overflow, primary_byte-inline, value_of-le}
use Rattle.pciv_format.proofs.RefusalsLaws.{refuse_if-done, refuse_first-done, refuse_first-none}
use Rattle.pciv_format.proofs.LayoutLaws.{length-header, length-primary, length-file, file-cong, summary-cong}
use Rattle.pciv_format.proofs.PrimaryLaws.{primary-byte}
use Rattle.pciv_format.proofs.FileLaws.{file-header, file-byte, file-slot, file-distance}
use Rattle.pciv_format.proofs.FileLaws.{file-checked, file-value}
use Rattle.pciv_format.proofs.Acceptance.{file-counted, file-accepted, file-read, file-table, summary-table}
use Rattle.pciv_format.proofs.Acceptance.{table-limits}
use Rattle.pciv_format.proofs.OriginLaws.{entry_in, origin_in, origin_of-entry_in, file-entry_number}
use Rattle.pciv_format.proofs.SamePartsLaws.{SameParts, sound-same, same_back, value_of-same}
use Rattle.pciv_format.proofs.FrontLaws.{front-counts, front-list}
use Rattle.pciv_format.proofs.LimitLaws.{edit-plain}

module _ {A B : Type 0} where
  -- for every buffer or list: the answer is o of its capacity, and afterwards f stands at its front and the rest is
  -- unchanged, or all of it where o refuses
  abbrev pub Writes : (ℕ → Outcome A) → (List B → List B) → (ℕ → Outcome A) → List B → Type 0
  Writes outcome after o f =
      (out : List B) → (outcome (length out) ≡ o (length out)) × (after out ≡ written (o (length out)) f out)

-- ---- reading

primary-part : (n : ℕ) (v : ℕ → ℕ) → take n (drop 40 (file n v)) ≡ primary n v
unfolding file
primary-part n v =
    ap (take n) (drop_at (header n (overflow_count n v)) _ 40 (length-header n _))
    ∙ take_at (primary n v) _ n (length-primary n v)

-- lookups in a list xs, into lists of c₁ and c₂ elements: refusals 9 and 12
abbrev pub lookups_into : List ℕ → List ℕ → ℕ → ℕ → Outcome ℕ
lookups_into xs slots c₁ c₂ =
    refuse_first SlotOutOfRange 0 (λ (i : ℕ). leb (length xs) (at slots i)) (length slots) (items_into (length slots) (min c₁ c₂))

module _ (xs : List ℕ) (l : Limits xs) where
  pub file-primary : primary_part (file_of xs) ≡ primary (length xs) (at xs)
  unfolding primary_part
  file-primary =
      rw (file-counted 1 xs l, (file-header (length xs) (at xs) l.count l.each).n_is)
      (primary-part (length xs) (at xs))

  pub file-primary_place : (p : ℕ × ℕ) → primary_place (file_of xs) p ≡ behind 40 p
  unfolding primary_place
  file-primary_place p = rw (file-counted 1 xs l)

  pub file-lookup : (slot : ℕ)
      → lookup_outcome (file_of xs) slot
      ≡ refuse_if (leb (length xs) slot) (refuse SlotOutOfRange 0 0)
      (Ok (record { distance = at xs slot; origin = origin_in xs slot }))
  unfolding lookup_outcome counts_of
  file-lookup slot =
      rw (
        file-counted 1 xs l,
        file-read xs l,
        file-entry_number xs l slot,
        (file-header (length xs) (at xs) l.count l.each).k_is,
        origin_of-entry_in xs slot,
      )

  pub file-lookup_list : (slots : List ℕ) (c₂ : ℕ)
      → Writes (λ c₁. lookup_list_outcome (file_of xs) slots c₁ c₂) (lookup_list_buffer (file_of xs) slots c₂)
      (λ c₁. lookups_into xs slots c₁ c₂) (map (at xs) slots)
  unfolding lookup_list_outcome lookup_list_buffer counts_of
  file-lookup_list slots c₂ out = rw (file-counted 1 xs l, file-read xs l) (refl, refl)

  pub file-lookup_entries : (slots : List ℕ) (c₁ : ℕ)
      → Writes (lookup_list_outcome (file_of xs) slots c₁) (lookup_list_entries (file_of xs) slots c₁)
      (lookups_into xs slots c₁) (map (entry_in xs) slots)
  unfolding lookup_list_outcome lookup_list_entries counts_of
  file-lookup_entries slots c₁ out =
      rw (
        file-counted 1 xs l,
        map-cong (entry_number (file_of xs)) (entry_in xs) slots (λ i h. file-entry_number xs l (get_or slots i 0)),
      ) (refl, refl)

  pub file-scan : Writes (scan_outcome (file_of xs)) (scan_buffer (file_of xs)) (items_into (length xs)) xs
  unfolding scan_outcome scan_buffer counts_of
  file-scan out = rw (file-counted 1 xs l, file-read xs l) (refl, refl)

  pub file-sum : sum_outcome (file_of xs) ≡ Ok (total xs)
  unfolding sum_outcome
  file-sum = rw (file-counted 1 xs l, file-read xs l)

  pub file-readings : readings_outcome (file_of xs) ≡ Ok (readings xs)
  unfolding readings_outcome
  file-readings = rw (file-counted 1 xs l, file-read xs l)

  -- ---- masks of a map

  -- of the slots whose distance passes the test p
  pub file-select : (p : ℕ → Bool)
      → Writes (select_outcome (file_of xs)) (select_words p (file_of xs)) (items_into (mask_len (length xs)))
      (mask_of (length xs) (λ i. p (at xs i)))
  unfolding counts_of
  file-select p out = rw (file-counted 1 xs l, file-read xs l) (refl, refl)

  pub file-threshold : (c : Comparison) (t : ℕ)
      → Writes (threshold_outcome c (file_of xs) t) (threshold_words c (file_of xs) t) (items_into (mask_len (length xs)))
      (mask_of (length xs) (λ i. holds c (at xs i) t))
  unfolding threshold_outcome threshold_words
  file-threshold c t = file-select (λ x. holds c x t)

  pub file-near_mask : (t : ℕ)
      → Writes (near_mask_outcome (file_of xs) t) (near_mask_words (file_of xs) t) (items_into (mask_len (length xs)))
      (mask_of (length xs) (λ i. is_near t (at xs i)))
  unfolding near_mask_outcome near_mask_words
  file-near_mask t = file-select (is_near t)

-- ---- maps from one file

-- the distance of a shifted map, and of a masked one, at slot i
abbrev pub shifted_at : ℤ → List ℕ → ℕ → ℕ
shifted_at d xs i = shifted_by d (at xs i)

abbrev pub masked_at : (Bool → ℕ → ℕ) → List ℕ → List ℕ → ℕ → ℕ
masked_at f ws xs i = f (mask_has ws i) (at xs i)

-- the masked map into a buffer of c bytes: refusals 13, 11 and 12
abbrev pub masked_into : (Bool → ℕ → ℕ) → List ℕ → List ℕ → ℕ → Outcome Summary
masked_into f ws xs c = refuse_if (bad_mask (length xs) ws) (refuse BadMask 0 0) (map_into (length xs) (masked_at f ws xs) c)

module _ (xs : List ℕ) (l : Limits xs) where
  pub file-shift : (d : ℤ)
      → Writes (shift_outcome (file_of xs) d) (shift_buffer (file_of xs) d) (map_into (length xs) (shifted_at d xs))
      (file (length xs) (shifted_at d xs))
  unfolding shift_outcome shift_buffer counts_of
  file-shift d out = rw (file-counted 1 xs l, file-read xs l) (refl, refl)

  pub file-masked : (f : Bool → ℕ → ℕ) (ws : List ℕ)
      → Writes (masked_outcome f (file_of xs) ws) (masked_buffer f (file_of xs) ws) (masked_into f ws xs)
      (file (length xs) (masked_at f ws xs))
  unfolding counts_of
  file-masked f ws out = rw (file-counted 1 xs l, file-read xs l) (refl, refl)

  pub file-keep_masked : (ws : List ℕ)
      → Writes (keep_masked_outcome (file_of xs) ws) (keep_masked_buffer (file_of xs) ws) (masked_into kept_if ws xs)
      (file (length xs) (masked_at kept_if ws xs))
  unfolding keep_masked_outcome keep_masked_buffer
  file-keep_masked = file-masked kept_if

  pub file-increment_masked : (ws : List ℕ)
      → Writes (increment_masked_outcome (file_of xs) ws) (increment_masked_buffer (file_of xs) ws) (masked_into plus_if ws xs)
      (file (length xs) (masked_at plus_if ws xs))
  unfolding increment_masked_outcome increment_masked_buffer
  file-increment_masked = file-masked plus_if

-- ---- two files

-- refusal 10, then what follows
module _ {A : Type 0} where
  abbrev pub refuse_sizes : List ℕ → List ℕ → Outcome A → Outcome A
  refuse_sizes xs ys o = refuse_if (not (eqb (length xs) (length ys))) (refuse SizeMismatch 0 0) o

module _ (xs ys : List ℕ) (l : Limits xs) (m : Limits ys) where
  pub file-pair : {A : Type 0} (next : ℕ → Outcome A)
      → pair_outcome (file_of xs) (file_of ys) next ≡ refuse_sizes xs ys (next (length xs))
  unfolding counts_of
  file-pair next = rw (file-counted 1 xs l, file-counted 2 ys m)

  pub file-combine_maps : (o : SlotOp)
      → Writes (combine_maps_outcome o (file_of xs) (file_of ys)) (combine_maps_buffer o (file_of xs) (file_of ys))
      (λ c. refuse_sizes xs ys (map_into (length xs) (combined_at o xs ys) c)) (file (length xs) (combined_at o xs ys))
  unfolding combine_maps_outcome combine_maps_buffer
  file-combine_maps o out =
      rw (file-read xs l, file-read ys m, file-pair (λ n. map_into n (combined_at o xs ys) (length out))) (refl, refl)

  pub file-signed_difference :
      Writes (signed_difference_outcome (file_of xs) (file_of ys)) (signed_difference_list (file_of xs) (file_of ys))
      (λ c. refuse_sizes xs ys (items_into (length xs) c)) (signed_differences xs ys)
  unfolding signed_difference_outcome signed_difference_list
  file-signed_difference out =
      rw (file-read xs l, file-read ys m, file-pair (λ n. items_into n (length out))) (refl, refl)

  pub file-bray_curtis : bray_curtis_outcome (file_of xs) (file_of ys)
      ≡ refuse_sizes xs ys (Ok (quotient (distance_between xs ys) (total xs + total ys)))
  unfolding bray_curtis_outcome
  file-bray_curtis = rw (file-read xs l, file-read ys m) (file-pair _)

  pub file-jaccard : (t : ℕ) → jaccard_outcome t (file_of xs) (file_of ys)
      ≡ refuse_sizes xs ys (Ok (quotient (count_at xor t xs ys) (count_at ◌||◌ t xs ys)))
  unfolding jaccard_outcome
  file-jaccard t = rw (file-read xs l, file-read ys m) (file-pair _)

-- ---- the report

-- the text of a list: of a file of more than 65,536 bytes it tells refusal 12
abbrev pub report_of : List ℕ → List ℕ
report_of xs = text_of (refuse_if (ltb 65536 (summary_of xs).len) (refuse BufferTooSmall 0 0) (Ok (summary_of xs))) xs

module _ (xs : List ℕ) (l : Limits xs) where
  pub file-report_text : report_text (file_of xs) ≡ report_of xs
  unfolding report_text counts_of summary total
  file-report_text = rw (file-counted 1 xs l, file-read xs l, length-file (length xs) (at xs))

  pub file-report :
      Writes (report_outcome (file_of xs)) (report_buffer (file_of xs)) (items_into (length (report_of xs))) (report_of xs)
  unfolding report_outcome report_buffer
  file-report out = rw file-report_text (refl, refl)

-- ---- the editor, on a buffer with the file of xs at its front and any bytes t behind it

-- the answers of a run into a list of c numbers: refusals 9 and 12
abbrev pub run_into : List ℕ → List ℕ → ℕ → Outcome ℕ
run_into slots distances c =
    refuse_if (not (eqb (length slots) (length distances))) (refuse SlotOutOfRange 0 (min (length slots) (length distances)))
    (refuse_if (ltb c (answer_len * length slots)) (refuse BufferTooSmall 0 0) (Ok (length slots)))

module _ (xs t : List ℕ) (l : Limits xs) where
  pub front-edit : (e : Edit)
      → (let b = file_of xs ++ t in
      (edit_outcome b e ≡ plain_outcome xs (length b) e)
      × (edit_buffer b e ≡ if_accepted (plain_outcome xs (length b) e) (replaced b xs (edited xs e)) b)
      × (edit_moved b e ≡ plain_moved xs (length b) e))
  unfolding edit_buffer edit_moved plain_moved
  front-edit e =
      let is = edit-plain xs t l e in
      let list = front-list xs t l in
      (is, rw (is, list), rw (is, list))

  pub front-edit_list : (slots distances : List ℕ)
      → (let b = file_of xs ++ t in
      let es = edits_of slots distances in
      Writes (edit_list_outcome b slots distances) (edit_list_answers b slots distances) (run_into slots distances)
      (all_cells (plain_outcomes (length b) (plain_start xs) es) (plain_moves (length b) (plain_start xs) es))
      × ((c : ℕ) → edit_list_buffer b slots distances c
      ≡ if_accepted (run_into slots distances c) (buffer_of (plain_run (length b) (plain_start xs) es) b) b))
  unfolding edit_list_outcome edit_list_answers edit_list_buffer
  front-edit_list slots distances = (
    λ out. rw (front-counts xs t l 1, front-list xs t l) (refl, refl),
    λ c. rw (front-counts xs t l 1, front-list xs t l),
  )

-- ---- what is read from a written map

-- the file at the front of b, as long as s says, is accepted with the summary s and is read as zs
pub record ReadAs (b : List ℕ) (s : Summary) (zs : List ℕ) : Type 0 where
  pub accepted : (mp : ℕ) → check_file mp (take s.len b) ≡ Ok s
  pub read : list_of (take s.len b) ≡ zs

-- where the answer is done with s, that file stands in the buffer
abbrev pub WritesMap : (ℕ → Outcome Summary) → (List ℕ → List ℕ) → List ℕ → Type 0
WritesMap outcome after zs = (out : List ℕ) (s : Summary) → outcome (length out) ≡ Ok s → ReadAs (after out) s zs

pub front_read : (zs t : List ℕ) → Limits zs → ReadAs (file_of zs ++ t) (summary_of zs) zs
unfolding summary counts_of
front_read zs t l =
    let front : take (summary_of zs).len (file_of zs ++ t) ≡ file_of zs =
    take_at (file_of zs) t (summary_of zs).len (length-file (length zs) (at zs)) in
    record { accepted = λ mp. ap (check_file mp) front ∙ file-accepted mp zs l; read = ap list_of front ∙ file-read zs l }

-- n slots with distances v are within the limits, and s is the summary of their file
pub record Writable (n : ℕ) (v : ℕ → ℕ) (s : Summary) : Type 0 where
  pub few : n ≤ max_slots
  pub each : (i : ℕ) → i < n → v i ≤ max_distance
  pub summary_is : summary n v ≡ s

module _ (n : ℕ) (v : ℕ → ℕ) where
  file_into-done : n ≤ max_slots → ((i : ℕ) → i < n → v i ≤ max_distance) → (c : ℕ) (s : Summary) → file_into n v c ≡ Ok s
      → Writable n v s
  file_into-done few each c s e =
      let is : Ok (summary n v) ≡ Ok s = (refuse_if-done (ltb c (length (file n v))) _ _ s e).1 in
      record { few = few; each = each; summary_is = cc }

  map_into-done : n ≤ max_slots → (c : ℕ) (s : Summary) → map_into n v c ≡ Ok s → Writable n v s
  map_into-done few c s e =
      let g = refuse_first-done DistanceOverflow 0 (λ (i : ℕ). ltb max_distance (v i)) n (file_into n v c) s e in
      file_into-done few (λ i h. ltb-false max_distance (v i) (g.0 i h)) c s g.1

  pub written-summary : n ≤ max_slots → ((i : ℕ) → i < n → v i ≤ max_distance) → (c : ℕ) (s : Summary) → file_into n v c ≡ Ok s
      → (mp : ℕ) → check_file mp (file n v) ≡ Ok s
  written-summary few each c s e mp =
      rw (← (file_into-done few each c s e).summary_is, file-table n v, summary-table n v)
      (file-accepted mp (table v 0 n) (table-limits n v few each))

  -- after a routine whose answer o and buffer `after` are those of o', the arithmetic on lists
  pub map_read : {o o' : Outcome Summary} {after : List ℕ} (out : List ℕ) (s : Summary)
      → (o ≡ o') × (after ≡ written o' (file n v) out) → (o' ≡ Ok s → Writable n v s) → o ≡ Ok s
      → ReadAs after s (table v 0 n)
  map_read out s law last e =
      let is = sym law.0 ∙ e in
      let w = last is in
      rw (law.1, is, ← w.summary_is, file-table n v, summary-table n v)
      (front_read (table v 0 n) _ (table-limits n v w.few w.each))

module _ (xs : List ℕ) (l : Limits xs) where
  pub write_read : WritesMap (write_outcome xs) (write_buffer xs) xs
  unfolding write_outcome write_buffer
  write_read out s e =
      let w =
      file_into-done (length xs) (at xs) l.count l.each (length out) s
      (refuse_if-done (ltb max_slots (length xs)) _ _ s e).1 in
      rw (e, ← w.summary_is) (front_read xs _ l)

  pub shift-read : (d : ℤ)
      → WritesMap (shift_outcome (file_of xs) d) (shift_buffer (file_of xs) d) (table (shifted_at d xs) 0 (length xs))
  shift-read d out s =
      map_read (length xs) (shifted_at d xs) out s (file-shift xs l d out)
      (map_into-done (length xs) (shifted_at d xs) l.count (length out) s)

  pub masked-read : (f : Bool → ℕ → ℕ) (ws : List ℕ)
      → WritesMap (masked_outcome f (file_of xs) ws) (masked_buffer f (file_of xs) ws)
      (table (masked_at f ws xs) 0 (length xs))
  masked-read f ws out s =
      map_read (length xs) (masked_at f ws xs) out s (file-masked xs l f ws out)
      (λ e.
      map_into-done (length xs) (masked_at f ws xs) l.count (length out) s
      (refuse_if-done (bad_mask (length xs) ws) _ _ s e).1)

  pub keep_masked-read : (ws : List ℕ)
      → WritesMap (keep_masked_outcome (file_of xs) ws) (keep_masked_buffer (file_of xs) ws)
      (table (masked_at kept_if ws xs) 0 (length xs))
  unfolding keep_masked_outcome keep_masked_buffer
  keep_masked-read = masked-read kept_if

  pub increment_masked-read : (ws : List ℕ)
      → WritesMap (increment_masked_outcome (file_of xs) ws) (increment_masked_buffer (file_of xs) ws)
      (table (masked_at plus_if ws xs) 0 (length xs))
  unfolding increment_masked_outcome increment_masked_buffer
  increment_masked-read = masked-read plus_if

pub combine_maps-read : (xs ys : List ℕ) → Limits xs → Limits ys → (o : SlotOp)
    → WritesMap (combine_maps_outcome o (file_of xs) (file_of ys)) (combine_maps_buffer o (file_of xs) (file_of ys))
    (table (combined_at o xs ys) 0 (length xs))
combine_maps-read xs ys l m o out s =
    map_read (length xs) (combined_at o xs ys) out s (file-combine_maps xs ys l m o out)
    (λ e.
    map_into-done (length xs) (combined_at o xs ys) l.count (length out) s
    (refuse_if-done (not (eqb (length xs) (length ys))) _ _ s e).1)

pub map_of_mask-read : (n : ℕ) (ws : List ℕ)
    → WritesMap (map_of_mask_outcome n ws) (map_of_mask_buffer n ws) (table (mask_value ws) 0 n)
unfolding map_of_mask_outcome map_of_mask_buffer
map_of_mask-read n ws out s =
    map_read n (mask_value ws) out s (refl, refl)
    (λ e.
    (let g = refuse_if-done (ltb max_slots n) _ _ s e in
    map_into-done n (mask_value ws) (ltb-false max_slots n g.0) (length out) s
    (refuse_if-done (bad_mask n ws) _ _ s g.1).1))

-- for bytes below 256 and distances within the limit, which those of the routine's types are
pub close-read : (bytes slots distances : List ℕ) → Bytes bytes → ((j : ℕ) → at distances j ≤ max_distance)
    → WritesMap (close_outcome bytes slots distances) (close_buffer bytes slots distances)
    (table (value_of (close_parts bytes slots distances)) 0 (length bytes))
unfolding close_outcome close_buffer
close-read bytes slots distances small each out s =
    let P : Parts = close_parts bytes slots distances in
    map_read P.n (value_of P) out s (refl, refl)
    (λ e.
    (let g = refuse_if-done (ltb max_slots P.n) _ _ s e in
    let h₆ = refuse_first-done BadOverflowEntry 1 (bad_entry P) P.k _ s g.1 in
    let h₇ = refuse_first-done MissingOverflowEntry 1 (bad_slot P) P.n _ s h₆.1 in
    let sound : SoundParts P = record { entries = h₆.0; slots = h₇.0 } in
    file_into-done P.n (value_of P) (ltb-false max_slots P.n g.0)
    (value_of-le P sound small (λ j h. each j)) (length out) s h₇.1))

-- ---- close takes the parts of every list

-- the distances in overflow, in order of their slots
abbrev pub overflow_distances : ℕ → (ℕ → ℕ) → List ℕ
overflow_distances n v = map v (overflow_slots n v)

primary-bytes : (n : ℕ) (v : ℕ → ℕ) → Bytes (primary n v)
primary-bytes n v i =
    elim (dec_le n i) [
      | yes past ↦ omega (arith, get_or-eq_default (primary n v) 0 {n = i} (omega (arith, length-primary n v)))
      | no inside ↦ (let at_i = primary-byte n v i (omega arith) in
          elim (dec_le 255 (v i)) [
            | yes overflows ↦ omega (arith, at_i, primary_byte-overflow (v i) overflows)
            | no small ↦ omega (arith, at_i, primary_byte-inline (v i) (omega arith))
          ])
    ]

module _ (n : ℕ) (v : ℕ → ℕ) (few : n ≤ max_slots) (each : (i : ℕ) → i < n → v i ≤ max_distance) where
  -- the parts of the map, as close is given them
  abbrev parts : Parts
  parts = close_parts (primary n v) (overflow_slots n v) (overflow_distances n v)

  -- they have the numbers of its file
  same : SameParts (file_parts (file n v) n (overflow_count n v)) parts
  unfolding overflow_count
  same =
      let ss : List ℕ = overflow_slots n v in
      record {
        n_same = length-primary n v;
        k_same = rw (length-map ss v) (omega arith);
        byte_same = λ i h. primary-byte n v i h ∙ sym (file-byte n v few each i h);
        slot_same = λ j h. get_or-inside ss j _ 0 h ∙ sym (file-slot n v few each j h);
        distance_same = λ j h. get_or-map_inside v ss j 0 0 h ∙ sym (file-distance n v few each j h);
      }

  sound : SoundParts parts
  sound = sound-same _ parts same (file-checked n v few each).parts

  value : (i : ℕ) → i < n → value_of parts i ≡ v i
  value i h =
      let inside : i < parts.n = omega (arith, length-primary n v) in
      sym (value_of-same parts _ (same_back _ parts same) sound i inside (primary-bytes n v i))
      ∙ file-value n v few each i h

  parts-file : file (length (primary n v)) (value_of parts) ≡ file n v
  parts-file = ap (λ (m : ℕ). file m (value_of parts)) (length-primary n v) ∙ file-cong n (value_of parts) v value

  parts-summary : summary (length (primary n v)) (value_of parts) ≡ summary n v
  parts-summary =
      ap (λ (m : ℕ). summary m (value_of parts)) (length-primary n v) ∙ summary-cong n (value_of parts) v value

  pub map-close :
      Writes (close_outcome (primary n v) (overflow_slots n v) (overflow_distances n v))
      (close_buffer (primary n v) (overflow_slots n v) (overflow_distances n v)) (file_into n v) (file n v)
  unfolding close_outcome close_buffer
  map-close out =
      rw (
        le-ltb max_slots (length (primary n v)) (omega (arith, few, length-primary n v)),
        refuse_first-none BadOverflowEntry 1 (bad_entry parts) parts.k _ sound.entries,
        refuse_first-none MissingOverflowEntry 1 (bad_slot parts) parts.n _ sound.slots,
        parts-file,
        parts-summary,
      ) (refl, refl)
