-- Bundles that were written are read back (docs/FORMAT.md, "Bundles").
--   Bundled xss n              lists that a bundle can hold: one to eight, within the limits, each of n slots
--   bundle_of_lists n xss        the bundle of their files
--   WrittenRead, bundle-written-read    the writer is done, and what it left is read as those files
--   row_of_lists xss slot        the distance at a slot in each of eight lists, 0 for those that are absent
--   row-at, row-absent         its elements; 0 from the number of lists on
--   bundle-row, bundle-row-outside    the row of such a bundle; of a slot that it does not have
--   nearest_of_lists n xss       the nearest distance of every slot over those lists
--   NearestWritten, bundle-nearest    the nearest list of such a bundle, and the caller's list afterwards
-- Axioms: none.
use Rattle.std.proofs.Common.{Ok}
use Rattle.pciv_format.specs.declared.RefusalKind.TheVariants.{SlotOutOfRange}
use mathlib.Core.Path.{◌≡◌, refl, sym, ap, ap₂, ◌∙◌}
use Prim.Native.Nat.{ℕ, suc, ◌+◌, ◌≤◌, ◌<◌}
use native.Mathlib.Nat.{zero-add}
use native.Mathlib.Omega.{arith}
use native.Mathlib.Decide.{dec_le}
use mathlib.Core.List.{List, [], ◌∷◌, ◌++◌, map}
use lib.ListN.{length, get_or, take, drop, length-map, get_or-eq_default}
use lib.Seq.{take_at, drop_at, get_or-take}
use Rattle.pciv_bytes.specs.Ranges.{table}
use Rattle.pciv_bytes.proofs.RangesLaws.{get_or-map_inside, get_or-table, table-cong}
use Rattle.pciv_format.specs.Layout.{at, file_of, Limits}
use Rattle.pciv_format.specs.Refusals.{refuse, written}
use Rattle.pciv_format.specs.Check.{n_field}
use Rattle.pciv_format.specs.Read.{items_into}
use Rattle.pciv_format.proofs.Acceptance.{file-read}
use Rattle.pciv_bundle_records.specs.Records.{frames, slot_count, bundle_of}
use Rattle.pciv_bundle_records.proofs.RecordBytesLaws.{bundle_of-frames, bundle_of-sound, bundle_of-slot_count}
use Rattle.pciv_bundle_frames.specs.Frames.{frames_outcome, row_of}
use Rattle.pciv_bundle_frames.proofs.FramesLaws.{frames-checked, frames_small}
use Rattle.pciv_bundle_frames.proofs.FrameFileLaws.{FrameFile, file-frame, files-done}
use Rattle.pciv_bundle_frames.proofs.RowLaws.{row_at, absent-zero}
use Rattle.pciv_bundle_nearest.specs.Nearest.{nearest_of, distances_at, nearest_at, nearest_list}
use Rattle.pciv_bundle.specs.Bundle.{bundle_outcome, row_outcome, nearest_outcome, nearest_buffer, used_slots}
use Rattle.pciv_bundle.specs.Bundle.{bundle_write_outcome, bundle_write_buffer}
use Rattle.pciv_bundle.proofs.BundleCaseLaws.{bundle-done, row_inside, row-outside, write_done}

-- lists that a bundle of n slots can hold
pub record Bundled (xss : List (List ℕ)) (n : ℕ) : Type 0 where
  pub some : 1 ≤ length xss
  pub few : length xss ≤ 8
  pub limits : (f : ℕ) → f < length xss → Limits (get_or xss f [])
  pub slots : (f : ℕ) → f < length xss → length (get_or xss f []) ≡ n

abbrev pub bundle_of_lists : ℕ → List (List ℕ) → List ℕ
bundle_of_lists n xss = bundle_of n (map file_of xss)

-- what the writer answers and leaves, and what that is read as
pub record WrittenRead (xss : List (List ℕ)) (n : ℕ) (fs : List (List ℕ)) (out : List ℕ) : Type 0 where
  pub answer : bundle_write_outcome fs (length xss) (length out) ≡ Ok (length (bundle_of_lists n xss))
  pub front : take (length (bundle_of_lists n xss)) (bundle_write_buffer fs (length xss) out) ≡ bundle_of_lists n xss
  pub rest : drop (length (bundle_of_lists n xss)) (bundle_write_buffer fs (length xss) out)
      ≡ drop (length (bundle_of_lists n xss)) out
  pub counts : bundle_outcome (bundle_of_lists n xss) ≡ Ok (record { slots = n; frames = length xss })
  pub given : frames (bundle_of_lists n xss) ≡ map file_of xss

abbrev pub row_of_lists : List (List ℕ) → ℕ → List ℕ
row_of_lists xss slot = table (λ (f : ℕ). at (get_or xss f []) slot) 0 8

abbrev pub nearest_of_lists : ℕ → List (List ℕ) → List ℕ
nearest_of_lists n xss = table (λ (i : ℕ). nearest_of (map (λ (xs : List ℕ). at xs i) xss)) 0 n

-- what the nearest of such a bundle answers and leaves
pub record NearestWritten (xss : List (List ℕ)) (n : ℕ) : Type 0 where
  pub answer : (capacity : ℕ) → nearest_outcome (bundle_of_lists n xss) capacity ≡ items_into n capacity
  pub list : nearest_list (frames (bundle_of_lists n xss)) n ≡ nearest_of_lists n xss
  pub buffer : (out : List ℕ) → nearest_buffer (bundle_of_lists n xss) out
      ≡ written (items_into n (length out)) (nearest_of_lists n xss) out

-- ---- the elements of a row

module _ (xss : List (List ℕ)) (slot f : ℕ) where
  pub row-at : f < 8 → at (row_of_lists xss slot) f ≡ at (get_or xss f []) slot
  row-at h =
      get_or-table (λ (f : ℕ). at (get_or xss f []) slot) 0 0 8 f h
      ∙ ap (λ (f : ℕ). at (get_or xss f []) slot) (zero-add f)

  pub row-absent : length xss ≤ f → f < 8 → at (row_of_lists xss slot) f ≡ 0
  row-absent absent h = row-at h ∙ rw (get_or-eq_default xss [] absent)

-- ---- files as frames

distances-files : (i : ℕ) (xss : List (List ℕ)) → ((f : ℕ) → f < length xss → Limits (get_or xss f []))
    → distances_at (map file_of xss) i ≡ map (λ (xs : List ℕ). at xs i) xss
unfolding distances_at
distances-files i [] limits = refl
distances-files i (xs ∷ xss) limits =
    ap₂ (λ (x : ℕ) (ys : List ℕ). x ∷ ys) (ap (λ (ys : List ℕ). at ys i) (file-read xs (limits 0 (omega arith))))
    (distances-files i xss (λ f h. limits (suc f) (omega arith)))

module _ (xss : List (List ℕ)) (n : ℕ) (l : Bundled xss n) where
  abbrev files : List (List ℕ)
  files = map file_of xss

  abbrev b : List ℕ
  b = bundle_of_lists n xss

  count : length files ≡ length xss
  count = length-map xss file_of

  file-at : (f : ℕ) → f < length xss → get_or files f [] ≡ file_of (get_or xss f [])
  file-at f h = get_or-map_inside file_of xss f [] [] h

  frame-file : (f : ℕ) → f < length files → FrameFile n (get_or files f [])
  frame-file f h =
      let inside : f < length xss = omega (arith, count) in
      rw (file-at f inside, ← l.slots f inside) (file-frame (get_or xss f []) (l.limits f inside))

  frames-done : frames_outcome n files ≡ Ok n
  frames-done = files-done n files frame-file

  small : (f : ℕ) → f < length files → (n < 4294967296) × (2 + length (get_or files f []) < 4294967296)
  small = frames_small n files n frames-done

  first : 0 < length files
  first = omega (arith, count, l.some)

  n-small : n < 4294967296
  n-small = (small 0 first).0

  frames-are : frames b ≡ files
  frames-are = bundle_of-frames n files (λ f h. (small f h).1)

  slots-are : slot_count b ≡ n
  slots-are = bundle_of-slot_count n files n-small

  counts : bundle_outcome b ≡ Ok (record { slots = n; frames = length xss })
  counts =
      let records = bundle_of-sound n files (λ f h. (small f h).1) first (omega (arith, count, l.few)) n-small in
      bundle-done b _ (rw count at records) n (rw frames-are frames-done)

  -- ---- written and read

  module _ (fs : List (List ℕ)) (given : take (length xss) fs ≡ map file_of xss) where
    used : used_slots fs ≡ n
    used =
        ap n_field
        (sym (get_or-take (length xss) fs 0 [] l.some)
        ∙ ap (λ (l : List (List ℕ)). get_or l 0 []) given)
        ∙ (frames-checked n files n frames-done 0 first).header.n_is

    frames-given : frames_outcome (used_slots fs) (take (length xss) fs) ≡ Ok n
    frames-given = rw (used, given) frames-done

    write-is : (capacity : ℕ) → length b ≤ capacity → bundle_write_outcome fs (length xss) capacity ≡ Ok (length b)
    write-is capacity fits =
        rw given at (write_done fs (length xss) l.some l.few n frames-given capacity (rw given fits))

    module _ (out : List ℕ) (fits : length (bundle_of_lists n xss) ≤ length out) where
      buffer-is : bundle_write_buffer fs (length xss) out ≡ b ++ drop (length b) out
      unfolding bundle_write_buffer
      buffer-is = rw (write-is (length out) fits, given, used)

      pub bundle-written-read : WrittenRead xss n fs out
      bundle-written-read =
          record {
            answer = write-is (length out) fits;
            front = rw buffer-is (take_at b (drop (length b) out) (length b) refl);
            rest = rw buffer-is (drop_at b (drop (length b) out) (length b) refl);
            counts = counts;
            given = frames-are;
          }

  -- ---- the row of a slot

  row_is : (slot f : ℕ) → row_at files slot f ≡ at (get_or xss f []) slot
  row_is slot f =
      elim (dec_le (length xss) f) [
        | yes absent ↦
            (let past : length files ≤ f = omega (arith, count) in
            absent-zero files slot f past ∙ rw (get_or-eq_default xss [] absent))
        | no present ↦
            (let inside : f < length xss = omega arith in
            rw (file-at f inside, file-read (get_or xss f []) (l.limits f inside)))
      ]

  pub bundle-row : (slot : ℕ) → slot < n → row_outcome (bundle_of_lists n xss) slot ≡ Ok (row_of_lists xss slot)
  unfolding row_of
  bundle-row slot inside =
      row_inside b _ counts slot inside
      ∙ ap Ok (rw frames-are (table-cong _ _ 0 8 (λ f h. row_is slot f)))

  pub bundle-row-outside : (slot : ℕ) → n ≤ slot → row_outcome (bundle_of_lists n xss) slot ≡ refuse SlotOutOfRange 0 0
  bundle-row-outside = row-outside b _ counts

  -- ---- the nearest distance of every slot

  nearest-is : nearest_list (frames b) n ≡ nearest_of_lists n xss
  unfolding nearest_list
  nearest-is =
      ap (λ (fs : List (List ℕ)). nearest_list fs n) frames-are
      ∙ table-cong (nearest_at files) _ 0 n (λ i h. ap nearest_of (distances-files i xss l.limits))

  pub bundle-nearest : NearestWritten xss n
  unfolding nearest_outcome nearest_buffer
  bundle-nearest =
      record {
        answer = λ capacity. rw counts;
        list = nearest-is;
        buffer = λ out. rw (counts, slots-are, nearest-is);
      }
