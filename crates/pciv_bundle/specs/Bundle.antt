-- What the routines on bundles answer (docs/FORMAT.md, "Bundles"). b are the bytes of a bundle.
--   bundle_outcome b           refusal 14, then each frame's 1 to 8, then 10, else the two counts
--   row_outcome b slot         then 9, else the distances at a slot, by frame
--   row_distances o, row_answer o
--                             the row, or eight zeros after a refusal; they beside the verdict
--   nearest_outcome b capacity, nearest_buffer b out
--                             then 12, else how many distances; the caller's list afterwards
--   used_slots fs              the slot count of a bundle that is written: that of its first frame
--   ShortFrames fs            what the writer knows of the frames: the length of each as a record fits in 4 bytes
--   bundle_write_outcome fs count capacity, bundle_write_buffer fs count out
--                             the first `count` of the frames fs as a bundle: how many bytes; the buffer afterwards
-- Laws are in proofs/BundleCaseLaws.antt, the theorems in Bundles.antt, Accepted.antt and Skips.antt. Axioms: none.
use Rattle.std.specs.Prelude.{Ok, Err}
use Rattle.pciv_format.specs.declared.RefusalKind.TheVariants.{SlotOutOfRange, BadBundle}
use Rattle.std.specs.Prelude.{ℕ, ◌+◌, ◌<◌, ◌^◌, ◌||◌, List, [], length, get_or, take, replicate, ltb, leb}
use Rattle.pciv_format.specs.Refusals.{Outcome, refuse, refuse_if, and_then, written, verdict_of}
use Rattle.pciv_format.specs.Check.{n_field}
use Rattle.pciv_format.specs.Read.{items_into}
use Rattle.pciv_bundle_records.specs.Records.{frames, slot_count, records_outcome, bundle_of}
use Rattle.pciv_bundle_records.specs.declared.BundleCounts.{BundleCounts}
use Rattle.pciv_bundle_frames.specs.Frames.{frames_outcome, row_of}
use Rattle.pciv_bundle_nearest.specs.Nearest.{nearest_list}
use Rattle.pciv_bundle.specs.declared.RowAnswer.{RowAnswer}

unfoldable pub bundle_outcome : List ℕ → Outcome BundleCounts
bundle_outcome b =
    and_then (records_outcome b) (λ c. and_then (frames_outcome c.slots (frames b)) (λ n. Ok c))

-- ---- the row of a slot

unfoldable pub row_outcome : List ℕ → ℕ → Outcome (List ℕ)
row_outcome b slot =
    and_then (bundle_outcome b)
    (λ c. refuse_if (leb c.slots slot) (refuse SlotOutOfRange 0 0) (Ok (row_of (frames b) slot)))

abbrev pub row_distances : Outcome (List ℕ) → List ℕ
row_distances (Ok row) = row
row_distances (Err r) = replicate 8 0

abbrev pub row_answer : Outcome (List ℕ) → RowAnswer
row_answer o = record { verdict = verdict_of o; distances = row_distances o }

-- ---- the nearest distance of every slot

unfoldable pub nearest_outcome : List ℕ → ℕ → Outcome ℕ
nearest_outcome b capacity = and_then (bundle_outcome b) (λ c. items_into c.slots capacity)

unfoldable pub nearest_buffer : List ℕ → List ℕ → List ℕ
nearest_buffer b out = written (nearest_outcome b (length out)) (nearest_list (frames b) (slot_count b)) out

-- ---- writing

abbrev pub used_slots : List (List ℕ) → ℕ
used_slots fs = n_field (get_or fs 0 [])

abbrev pub ShortFrames : List (List ℕ) → Type 0
ShortFrames fs = (f : ℕ) → f < length fs → 2 + length (get_or fs f []) < 2 ^ 32

-- frames past `count` are not looked at
unfoldable pub bundle_write_outcome : List (List ℕ) → ℕ → ℕ → Outcome ℕ
bundle_write_outcome fs count capacity =
    refuse_if (ltb count 1 || ltb 8 count) (refuse BadBundle 0 0)
    (and_then (frames_outcome (used_slots fs) (take count fs))
    (λ n. items_into (length (bundle_of n (take count fs))) capacity))

unfoldable pub bundle_write_buffer : List (List ℕ) → ℕ → List ℕ → List ℕ
bundle_write_buffer fs count out =
    written (bundle_write_outcome fs count (length out)) (bundle_of (used_slots fs) (take count fs)) out
