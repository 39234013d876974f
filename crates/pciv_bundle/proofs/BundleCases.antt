-- Worked cases of bundles, by computation (docs/FORMAT.md, "Worked examples").
--   AB         the bundle of two maps, of four slots each
--   further    what it is read as, each fault of 14 with its place, the refusals behind it, and the writer
--   bundled    those two maps are such as the theorems of Bundles.antt ask for
-- Axioms: none.
use Rattle.std.proofs.Common.{Ok}
use Rattle.pciv_format.specs.declared.RefusalKind.TheVariants.{TruncatedHeader, BadMagic, BadOverflowEntry, SlotOutOfRange, SizeMismatch, BufferTooSmall, BadBundle}
use mathlib.Core.Path.{◌≡◌, refl}
use Prim.Native.Nat.{ℕ, zero, suc, ◌≤◌, ◌<◌}
use native.Mathlib.Omega.{arith}
use mathlib.Core.List.{List, [], ◌∷◌, ◌++◌}
use lib.ListN.{length, get_or, take, set, replicate}
use lib.Dec.{lit≤}
use Rattle.pciv_bytes.specs.Ranges.{first_from, first_below, table, positions, joined}
use Rattle.pciv_bytes.specs.LittleEndian.{le, number, get}
use Rattle.pciv_format.specs.Layout.{index_step, index_len, file_len, primary, overflow_slots, overflow_count, overflow_entry}
use Rattle.pciv_format.specs.Layout.{overflow_part, index_part, header, file, counts_of, file_of, Limits}
use Rattle.pciv_format.specs.Refusals.{refuse}
use Rattle.pciv_format.specs.Parts.{wrong_entry, bad_entry, entry_of, bad_slot, value_of}
use Rattle.pciv_format.specs.Check.{bad_index_entry, bad_counts, check_header, check_parts, check_with}
use Rattle.pciv_format.specs.Read.{list_of}
use Rattle.pciv_format.proofs.Cases.{A, B}
use Rattle.pciv_bundle_records.specs.Records.{record_at, record_len, record_kind, record_payload, record_count}
use Rattle.pciv_bundle_records.specs.Records.{frames_before, frames, bad_header, bad_record, records_outcome, Record}
use Rattle.pciv_bundle_records.specs.Records.{record_of, record_bytes, records_bytes, bundle_records, bundle_of}
use Rattle.pciv_bundle_records.specs.Records.{header_of}
use Rattle.pciv_bundle_frames.specs.Frames.{sound_frames, frames_outcome, row_of}
use Rattle.pciv_bundle_nearest.specs.Nearest.{nearest_of, distances_at, nearest_list}
use Rattle.pciv_bundle.specs.Bundle.{bundle_outcome, row_outcome, nearest_outcome, nearest_buffer}
use Rattle.pciv_bundle.specs.Bundle.{bundle_write_outcome, bundle_write_buffer}
use Rattle.pciv_bundle.proofs.Bundles.{Bundled}

abbrev AB : List ℕ
AB = bundle_of 4 (file_of A ∷ file_of B ∷ [])

abbrev frame : List ℕ → Record
frame xs = record_of 1 (file_of xs)

abbrev skipped : List ℕ
skipped =
    records_bytes
    (header_of 4 2 ∷ record_of 2 [] ∷ frame A ∷ record_of 65535 (7 ∷ 0 ∷ 9 ∷ []) ∷ frame B ∷ record_of 3 [] ∷ [])

-- refused with 14 at this place
abbrev Fault : List ℕ → ℕ → Type 0
Fault b place = bundle_outcome b ≡ refuse BadBundle 0 place

-- the bundle, a row, and its nearest list
abbrev Reads : Type 0
Reads =
    (length AB ≡ 148)
    × (take 18 AB ≡ 8 ∷ 0 ∷ 0 ∷ 0 ∷ 0 ∷ 0 ∷ 4 ∷ 0 ∷ 0 ∷ 0 ∷ 2 ∷ 0 ∷ 70 ∷ 0 ∷ 0 ∷ 0 ∷ 1 ∷ 0 ∷ [])
    × (record_count AB ≡ 3)
    × (record_at AB 2 ≡ 86)
    × (frames_before AB 2 ≡ 1)
    × (frames AB ≡ file_of A ∷ file_of B ∷ [])
    × (bundle_outcome AB ≡ Ok (record { slots = 4; frames = 2 }))
    × (row_outcome AB 3 ≡ Ok (300 ∷ 4294967295 ∷ 0 ∷ 0 ∷ 0 ∷ 0 ∷ 0 ∷ 0 ∷ []))
    × (row_outcome AB 4 ≡ refuse SlotOutOfRange 0 0)
    × (nearest_list (frames AB) 4 ≡ 1 ∷ 1 ∷ 1 ∷ 300 ∷ [])
    × (nearest_outcome AB 4 ≡ Ok 4)
    × (nearest_outcome AB 3 ≡ refuse BufferTooSmall 0 0)
    × (nearest_buffer AB (replicate 5 7) ≡ 1 ∷ 1 ∷ 1 ∷ 300 ∷ 7 ∷ [])

-- no bytes; the bundle cut off in record 0, behind it, in the next length, between the frames, in a frame; one, two and
-- three bytes left over; a length below 2
abbrev Cut : Type 0
Cut =
    (Fault [] 0)
    × (Fault (take 11 AB) 0)
    × (Fault (take 12 AB) 1)
    × (Fault (take 13 AB) 1)
    × (Fault (take 86 AB) 2)
    × (Fault (take 120 AB) 2)
    × (Fault (AB ++ replicate 1 9) 3)
    × (Fault (AB ++ replicate 2 9) 3)
    × (Fault (AB ++ replicate 3 9) 3)
    × (Fault (AB ++ le 4 0) 3)
    × (Fault (AB ++ (le 4 1 ++ (2 ∷ []))) 3)

-- a first record of kind 1, of kind 2, of length 7, of length 9, with no frames, with nine; kind 0 later, which comes before
-- a missing frame; a frame too many; a frame missing
abbrev Wrong : Type 0
Wrong =
    (Fault (records_bytes (record_of 1 (le 4 4 ++ le 2 2) ∷ frame A ∷ frame B ∷ [])) 0)
    × (Fault (records_bytes (record_of 2 [] ∷ header_of 4 2 ∷ frame A ∷ frame B ∷ [])) 0)
    × (Fault (records_bytes (record_of 0 (le 4 4 ++ (2 ∷ [])) ∷ frame A ∷ frame B ∷ [])) 0)
    × (Fault (records_bytes (record_of 0 (le 4 4 ++ (le 2 2 ++ (0 ∷ []))) ∷ frame A ∷ frame B ∷ [])) 0)
    × (Fault (records_bytes (header_of 4 0 ∷ [])) 0)
    × (Fault (records_bytes (header_of 4 9 ∷ frame A ∷ frame B ∷ [])) 0)
    × (Fault (records_bytes (header_of 4 2 ∷ frame A ∷ header_of 4 2 ∷ frame B ∷ [])) 2)
    × (Fault (records_bytes (header_of 4 3 ∷ frame A ∷ header_of 4 3 ∷ [])) 2)
    × (Fault (records_bytes (header_of 4 1 ∷ frame A ∷ frame B ∷ [])) 2)
    × (Fault (records_bytes (header_of 4 3 ∷ frame A ∷ frame B ∷ [])) 3)

-- frame 2 with a wrong entry; with a wrong mark, which comes before a wrong slot count; with another slot count; both with
-- another one; a slot count that no map has; a frame without payload
abbrev Damaged : Type 0
Damaged =
    (bundle_outcome (bundle_of 4 (file_of A ∷ set (file_of B) 44 9 ∷ [])) ≡ refuse BadOverflowEntry 2 0)
    × (bundle_outcome (bundle_of 5 (file_of A ∷ set (file_of B) 0 9 ∷ [])) ≡ refuse BadMagic 2 0)
    × (bundle_outcome (bundle_of 4 (file_of A ∷ file_of (1 ∷ []) ∷ [])) ≡ refuse SizeMismatch 0 2)
    × (bundle_outcome (bundle_of 5 (file_of A ∷ file_of B ∷ [])) ≡ refuse SizeMismatch 0 1)
    × (bundle_outcome (bundle_of 1048577 (file_of A ∷ [])) ≡ refuse SizeMismatch 0 1)
    × (bundle_outcome (bundle_of 4 (file_of A ∷ [] ∷ [])) ≡ refuse TruncatedHeader 2 0)

-- other kinds between the frames and behind them
abbrev Skips : Type 0
Skips =
    (bundle_outcome skipped ≡ Ok (record { slots = 4; frames = 2 }))
    × (row_outcome skipped 3 ≡ Ok (300 ∷ 4294967295 ∷ 0 ∷ 0 ∷ 0 ∷ 0 ∷ 0 ∷ 0 ∷ []))
    × (nearest_buffer skipped (replicate 5 7) ≡ 1 ∷ 1 ∷ 1 ∷ 300 ∷ 7 ∷ [])

-- no slots
abbrev Empty : Type 0
Empty =
    (bundle_outcome (bundle_of 0 (file_of [] ∷ [])) ≡ Ok (record { slots = 0; frames = 1 }))
    × (row_outcome (bundle_of 0 (file_of [] ∷ [])) 0 ≡ refuse SlotOutOfRange 0 0)
    × (nearest_outcome (bundle_of 0 (file_of [] ∷ [])) 0 ≡ Ok 0)

-- the writer: a buffer just long enough, and one byte short; no frames, and nine; frame 2 of another slot count, and
-- with a wrong mark; what is past the count is not looked at; bytes past the bundle stay
abbrev Writes : Type 0
Writes =
    (bundle_write_outcome (file_of A ∷ file_of B ∷ []) 2 148 ≡ Ok 148)
    × (bundle_write_outcome (file_of A ∷ file_of B ∷ []) 2 147 ≡ refuse BufferTooSmall 0 0)
    × (bundle_write_outcome (file_of A ∷ file_of B ∷ []) 0 148 ≡ refuse BadBundle 0 0)
    × (bundle_write_outcome (file_of A ∷ file_of B ∷ []) 9 148 ≡ refuse BadBundle 0 0)
    × (bundle_write_outcome (file_of A ∷ file_of (1 ∷ []) ∷ []) 2 148 ≡ refuse SizeMismatch 0 2)
    × (bundle_write_outcome (file_of A ∷ set (file_of B) 0 9 ∷ []) 2 148 ≡ refuse BadMagic 2 0)
    × (bundle_write_outcome (file_of A ∷ (9 ∷ []) ∷ []) 1 148 ≡ Ok 86)
    × (bundle_write_buffer (file_of A ∷ file_of B ∷ (9 ∷ []) ∷ []) 2 (replicate 150 7) ≡ AB ++ (7 ∷ 7 ∷ []))

pub further : Reads × Cut × Wrong × Damaged × Skips × Empty × Writes
unfolding
    first_from first_below table positions joined le number get index_step index_len file_len primary
    overflow_slots overflow_count overflow_entry overflow_part index_part header file counts_of
    wrong_entry bad_entry entry_of bad_slot value_of bad_index_entry bad_counts check_header check_parts check_with list_of
    record_at record_len record_kind record_payload record_count frames_before frames bad_header bad_record records_outcome
    record_bytes records_bytes bundle_records bundle_of sound_frames frames_outcome row_of nearest_of distances_at nearest_list
    bundle_outcome row_outcome nearest_outcome nearest_buffer bundle_write_outcome bundle_write_buffer
further = (
  (refl, refl, refl, refl, refl, refl, refl, refl, refl, refl, refl, refl, refl),
  (refl, refl, refl, refl, refl, refl, refl, refl, refl, refl, refl),
  (refl, refl, refl, refl, refl, refl, refl, refl, refl, refl),
  (refl, refl, refl, refl, refl, refl),
  (refl, refl, refl),
  (refl, refl, refl),
  (refl, refl, refl, refl, refl, refl, refl, refl),
)

-- a list of four distances
four-limits : (a b c d : ℕ) → a ≤ 4294967295 → b ≤ 4294967295 → c ≤ 4294967295 → d ≤ 4294967295
    → Limits (a ∷ b ∷ c ∷ d ∷ [])
four-limits a b c d ha hb hc hd = record { count = lit≤ tt; each = each }
  where
    each : (i : ℕ) → i < 4 → get_or (a ∷ b ∷ c ∷ d ∷ []) i 0 ≤ 4294967295
    each zero h = ha
    each (suc zero) h = hb
    each (suc (suc zero)) h = hc
    each (suc (suc (suc zero))) h = hd
    each (suc (suc (suc (suc i)))) h = absurd (omega arith)

pub bundled : Bundled (A ∷ B ∷ []) 4
bundled = record { some = lit≤ tt; few = lit≤ tt; limits = limits; slots = slots }
  where
    limits : (f : ℕ) → f < 2 → Limits (get_or (A ∷ B ∷ []) f [])
    limits zero h = four-limits 0 254 255 300 (lit≤ tt) (lit≤ tt) (lit≤ tt) (lit≤ tt)
    limits (suc zero) h = four-limits 1 1 1 4294967295 (lit≤ tt) (lit≤ tt) (lit≤ tt) (lit≤ tt)
    limits (suc (suc f)) h = absurd (omega arith)

    slots : (f : ℕ) → f < 2 → length (get_or (A ∷ B ∷ []) f []) ≡ 4
    slots zero h = refl
    slots (suc zero) h = refl
    slots (suc (suc f)) h = absurd (omega arith)
