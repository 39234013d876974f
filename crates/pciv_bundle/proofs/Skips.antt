-- Records of a kind that has no meaning are skipped (docs/FORMAT.md, "Bundles").
--   SameAnswers a b    reader, row and nearest answer the same for the bytes a and b
--   bundle-skips       a record of kind 2 or more, put in between two records of a bundle or at its end, changes no answer;
--                      the bundle may be accepted, or refused because of its frames
--   put-in             computed: a record put into the bundle of one frame, where it is skipped and where it is refused
-- Axioms: none.
use Rattle.std.proofs.Common.{Ok}
use Rattle.pciv_format.specs.declared.RefusalKind.TheVariants.{BadBundle}
use mathlib.Core.Path.{◌≡◌, refl}
use Prim.Native.Nat.{ℕ, ◌≤◌}
use mathlib.Core.List.{List, [], ◌∷◌}
use Rattle.pciv_bytes.specs.Ranges.{first_from, first_below, table, positions, joined}
use Rattle.pciv_bytes.specs.LittleEndian.{le, number, get, Bytes}
use Rattle.pciv_format.specs.Layout.{index_step, index_len, file_len, primary, overflow_slots, overflow_count}
use Rattle.pciv_format.specs.Layout.{overflow_entry, overflow_part, index_part, header, file, file_of, counts_of}
use Rattle.pciv_format.specs.Refusals.{refuse}
use Rattle.pciv_format.specs.Parts.{wrong_entry, bad_entry, entry_of, bad_slot, value_of}
use Rattle.pciv_format.specs.Check.{bad_index_entry, bad_counts, check_header, check_parts, check_with}
use Rattle.pciv_format.specs.Read.{list_of}
use Rattle.pciv_format.proofs.Cases.{A}
use Rattle.pciv_bundle_records.specs.Records.{record_at, record_len, record_kind, record_payload, record_count, frames_before}
use Rattle.pciv_bundle_records.specs.Records.{frames, bad_header, bad_record, records_outcome, Record, record_of}
use Rattle.pciv_bundle_records.specs.Records.{record_bytes, records_bytes, bundle_records, bundle_of}
use Rattle.pciv_bundle_records.specs.Records.{header_of}
use Rattle.pciv_bundle_records.specs.RecordList.{FitsRecord, with_record}
use Rattle.pciv_bundle_records.specs.declared.BundleCounts.{BundleCounts}
use Rattle.pciv_bundle_records.proofs.SkippedLaws.{skipped-frames, skipped-outcome, skipped-slots}
use Rattle.pciv_bundle_frames.specs.Frames.{sound_frames, frames_outcome, row_of}
use Rattle.pciv_bundle_nearest.specs.Nearest.{nearest_of, distances_at, nearest_list}
use Rattle.pciv_bundle.specs.Bundle.{bundle_outcome, row_outcome, nearest_outcome, nearest_buffer}

pub record SameAnswers (a b : List ℕ) : Type 0 where
  pub counts : bundle_outcome a ≡ bundle_outcome b
  pub frames : frames a ≡ frames b
  pub row : (slot : ℕ) → row_outcome a slot ≡ row_outcome b slot
  pub nearest : (capacity : ℕ) → nearest_outcome a capacity ≡ nearest_outcome b capacity
  pub list : (out : List ℕ) → nearest_buffer a out ≡ nearest_buffer b out

module _ (b : List ℕ) (bytes : Bytes b) (c : BundleCounts) (right : records_outcome b ≡ Ok c)
    (r : ℕ) (low : 1 ≤ r) (high : r ≤ record_count b) (x : Record) (fits : FitsRecord x) (other : 2 ≤ x.kind) where
  frames-same : frames (with_record b r x) ≡ frames b
  frames-same = skipped-frames b bytes c right r low high x fits other

  counts_same : bundle_outcome (with_record b r x) ≡ bundle_outcome b
  unfolding bundle_outcome
  counts_same =
      rw (skipped-outcome b bytes c right r low high x fits other, frames-same)

  pub bundle-skips : SameAnswers (with_record b r x) b
  unfolding row_outcome nearest_outcome nearest_buffer
  bundle-skips =
      let slots = skipped-slots b bytes c right r low high x fits other in
      record {
        counts = counts_same;
        frames = frames-same;
        row = λ slot. rw (counts_same, frames-same);
        nearest = λ capacity. rw counts_same;
        list = λ out. rw (counts_same, frames-same, slots);
      }

-- ---- computed

-- map A in a bundle, and a record to be put in
abbrev alone : List ℕ
alone = bundle_of 4 (file_of A ∷ [])

abbrev note : ℕ → Record
note kind = record_of kind (1 ∷ 0 ∷ 255 ∷ [])

-- of kind 7: where it stands then, and the answers; before the header, as a second header and as a frame too many it is
-- refused
pub put-in :
    (with_record alone 1 (note 7) ≡ records_bytes (header_of 4 1 ∷ note 7 ∷ record_of 1 (file_of A) ∷ []))
    × (with_record alone 2 (note 7) ≡ records_bytes (header_of 4 1 ∷ record_of 1 (file_of A) ∷ note 7 ∷ []))
    × (bundle_outcome (with_record alone 1 (note 7)) ≡ Ok (record { slots = 4; frames = 1 }))
    × (row_outcome (with_record alone 2 (note 7)) 3 ≡ Ok (300 ∷ 0 ∷ 0 ∷ 0 ∷ 0 ∷ 0 ∷ 0 ∷ 0 ∷ []))
    × (nearest_buffer (with_record alone 1 (note 7)) (7 ∷ 7 ∷ 7 ∷ 7 ∷ 7 ∷ []) ≡ 0 ∷ 254 ∷ 255 ∷ 300 ∷ 7 ∷ [])
    × (bundle_outcome (with_record alone 0 (note 7)) ≡ refuse BadBundle 0 0)
    × (bundle_outcome (with_record alone 1 (note 0)) ≡ refuse BadBundle 0 1)
    × (bundle_outcome (with_record alone 2 (note 1)) ≡ refuse BadBundle 0 2)
unfolding
    bundle_of records_bytes bundle_records record_bytes file le header primary overflow_part overflow_slots
    overflow_count overflow_entry index_part index_len index_step table positions joined bundle_outcome records_outcome
    bad_record bad_header record_at record_len record_kind record_payload record_count frames_before frames sound_frames
    frames_outcome check_with check_header check_parts bad_counts bad_index_entry bad_entry wrong_entry bad_slot entry_of
    first_below first_from get number file_len counts_of row_outcome row_of list_of value_of nearest_of distances_at nearest_list
    nearest_outcome nearest_buffer
put-in = (refl, refl, refl, refl, refl, refl, refl, refl)
