-- The records of a bundle (docs/FORMAT.md, "Bundles"). b are the bytes of a bundle, its records are numbered from 0; what
-- is missing of a number at the end of b reads as 0.
--   behind_record b at     where the record behind the one at `at` starts
--   record_at b r          where record r starts
--   record_len, record_kind, record_payload b r    its length, which counts kind and payload, its kind, its payload
--   record_count b         how many records there are; a last one may be cut short
--   slot_count b, frame_count b    what record 0 says
--   is_frame b r           record r is a frame: a record of kind 1
--   frames_before b r      how many frames there are among the records below r
--   frames b              the frames, each a list of bytes
--   bad_header b           record 0 is not what a first record has to be
--   bad_record b r         record r is at fault (refusal 14)
--   wrong_record b at found count    so is a record that starts at `at` and is not the first, behind `found` frames of `count`
--   counts_in b            the two counts, as the reader's answer
--   records_outcome b      refusal 14, else the two counts
--   IsSplit b o result     a walk over the records answers o, and with the counts the places of the frames
--   Record, record_bytes, records_bytes rs    a record; its bytes; the bytes of records one after another
--   header_of n c          record 0 of a bundle of c frames with n slots
--   bundle_records n fs, bundle_of n fs       the records, and the bytes, of the bundle of the frames fs with n slots
--   no_place               that of an absent frame
--   Stands b place frame   the bytes of b at a place are the frame
--   PlacedFrame b p fs f    frame f of fs, here from 0, stands in b at place f of the places p
--   PlacedFrames b p      all frames of b do
-- Laws are in proofs/RecordsLaws.antt and, of the bytes of records, in RecordBytesLaws.antt. Axioms: none.
use Rattle.std.specs.Prelude.{Ok, Err}
use Rattle.pciv_format.specs.declared.RefusalKind.TheVariants.{BadBundle}
use Rattle.std.specs.Prelude.{◌≡◌, ℕ, zero, suc, ◌+◌, ◌-◌, ◌≤◌, ◌<◌, Bool, not, cond, ◌&&◌, ◌||◌, List, [], ◌∷◌, ◌++◌, map, length, get_or, take, drop, ltb, leb, eqb}
use Rattle.pciv_bytes.specs.Ranges.{first_below, positions}
use Rattle.pciv_bytes.specs.LittleEndian.{le, get}
use Rattle.pciv_format.specs.Refusals.{Outcome, refuse, refuse_if, refuse_first}
use Rattle.pciv_bundle_records.specs.declared.BundleCounts.{BundleCounts}
use Rattle.pciv_bundle_records.specs.declared.Span.{Span}
use Rattle.pciv_bundle_records.specs.declared.Split.{Split}

-- ---- the records

-- the length has 4 bytes and counts what follows it
abbrev pub behind_record : List ℕ → ℕ → ℕ
behind_record b at = at + 4 + get 4 b at

unfoldable pub record_at : List ℕ → ℕ → ℕ
record_at b zero = 0
record_at b (suc r) = behind_record b (record_at b r)

unfoldable pub record_len : List ℕ → ℕ → ℕ
record_len b r = get 4 b (record_at b r)

unfoldable pub record_kind : List ℕ → ℕ → ℕ
record_kind b r = get 2 b (record_at b r + 4)

unfoldable pub record_payload : List ℕ → ℕ → List ℕ
record_payload b r = take (record_len b r - 2) (drop (record_at b r + 6) b)

-- the least r whose record would start at the end of b, or past it; each record takes 4 bytes at least
unfoldable pub record_count : List ℕ → ℕ
record_count b = first_below (λ (r : ℕ). leb (length b) (record_at b r)) (length b)

-- ---- what they say

-- record 0 has its slot count behind length and kind, and then its frame count
abbrev pub slot_count : List ℕ → ℕ
slot_count b = get 4 b 6

abbrev pub frame_count : List ℕ → ℕ
frame_count b = get 2 b 10

abbrev pub is_frame : List ℕ → ℕ → Bool
is_frame b r = eqb (record_kind b r) 1

unfoldable pub frames_before : List ℕ → ℕ → ℕ
frames_before b r = length (positions (is_frame b) 0 r)

unfoldable pub frames : List ℕ → List (List ℕ)
frames b = map (record_payload b) (positions (is_frame b) 0 (record_count b))

-- ---- refusal 14

-- not kind 0, not length 8, or a frame count that is not from 1 to 8
unfoldable pub bad_header : List ℕ → Bool
bad_header b =
    not (eqb (record_kind b 0) 0) || not (eqb (record_len b 0) 8) || ltb (frame_count b) 1 || ltb 8 (frame_count b)

-- cut short; a length below 2; not what a first record has to be, or kind 0 later; a frame too many
unfoldable pub bad_record : List ℕ → ℕ → Bool
bad_record b r =
    ltb (length b) (record_at b (suc r)) || ltb (record_len b r) 2 || cond (eqb r 0) (bad_header b) (eqb (record_kind b r) 0)
    || (is_frame b r && leb (frame_count b) (frames_before b r))

-- the same of a later record, by where it starts
unfoldable pub wrong_record : List ℕ → ℕ → ℕ → ℕ → Bool
wrong_record b at found count =
    ltb (length b) (behind_record b at) || ltb (get 4 b at) 2 || eqb (get 2 b (at + 4)) 0
    || (eqb (get 2 b (at + 4)) 1 && leb count found)

abbrev pub counts_in : List ℕ → BundleCounts
counts_in b = record { slots = slot_count b; frames = frame_count b }

-- the least record at fault; with none, the number of records where all are missing, or frames are
unfoldable pub records_outcome : List ℕ → Outcome BundleCounts
records_outcome b =
    refuse_first BadBundle 0 (bad_record b) (record_count b)
    (refuse_if (eqb (record_count b) 0 || ltb (frames_before b (record_count b)) (frame_count b)) (refuse BadBundle 0 (record_count b))
    (Ok (counts_in b)))

-- ---- the bytes of records

pub record Record : Type 0 where
  pub kind : ℕ
  pub payload : List ℕ

abbrev pub record_of : ℕ → List ℕ → Record
record_of kind payload = record { kind = kind; payload = payload }

unfoldable pub record_bytes : Record → List ℕ
record_bytes r = le 4 (2 + length r.payload) ++ (le 2 r.kind ++ r.payload)

unfoldable pub records_bytes : List Record → List ℕ
records_bytes [] = []
records_bytes (r ∷ rs) = record_bytes r ++ records_bytes rs

abbrev pub header_of : ℕ → ℕ → Record
header_of n c = record_of 0 (le 4 n ++ le 2 c)

-- the header, and each frame as a record of kind 1
unfoldable pub bundle_records : ℕ → List (List ℕ) → List Record
bundle_records n fs = header_of n (length fs) ∷ map (record_of 1) fs

unfoldable pub bundle_of : ℕ → List (List ℕ) → List ℕ
bundle_of n fs = records_bytes (bundle_records n fs)

-- ---- where the frames stand

abbrev pub no_place : Span
no_place = record { start = 0; end = 0 }

pub record Stands (b : List ℕ) (place : Span) (frame : List ℕ) : Type 0 where
  pub rising : place.start ≤ place.end
  pub inside : place.end ≤ length b
  pub bytes : take (place.end - place.start) (drop place.start b) ≡ frame

abbrev pub PlacedFrame : List ℕ → List Span → List (List ℕ) → ℕ → Type 0
PlacedFrame b p fs f = Stands b (get_or p f no_place) (get_or fs f [])

abbrev pub PlacedFrames : List ℕ → List Span → Type 0
PlacedFrames b p = (f : ℕ) → f < length (frames b) → PlacedFrame b p (frames b) f

-- a walk over the records answers the outcome o, and the places of the frames where it is no refusal
abbrev pub IsSplit : List ℕ → Outcome BundleCounts → Outcome Split → Type 0
IsSplit b o (Ok s) = (o ≡ Ok s.counts) × PlacedFrames b s.places
IsSplit b o (Err r) = o ≡ Err r
