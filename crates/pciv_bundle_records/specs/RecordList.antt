-- Records as a list: what the theorems about bundles are stated with (docs/PROMISES.md, "Bundles").
--   no_record                   what `get_or` answers past the last record
--   FitsRecord r, AllFit rs    a record whose length and kind fit their fields; each of them does
--   frame_if, frames_in rs       a payload in front, or not; the payloads of the records of kind 1, in order
--   SoundRest c rest           the records that may stand behind the header of a bundle of c frames
--   records_of b                the records that b is read as
--   with_record b r x           b with a record x put in before its record r, or at its end
-- Laws are in proofs/RecordBytesLaws.antt, RecordListLaws.antt and SkippedLaws.antt. Axioms: none.
use Rattle.std.specs.Prelude.{◌≡◌, ℕ, ◌+◌, ◌≤◌, ◌<◌, Bool, true, false, List, [], ◌∷◌, ◌++◌, length, get_or, take, drop, eqb}
use Rattle.pciv_bytes.specs.Ranges.{table}
use Rattle.pciv_bundle_records.specs.Records.{record_at, record_kind, record_payload, record_count}
use Rattle.pciv_bundle_records.specs.Records.{Record, record_of, record_bytes}

abbrev pub no_record : Record
no_record = record_of 0 []

-- its length, of 4 bytes, and its kind, of 2
abbrev pub FitsRecord : Record → Type 0
FitsRecord r = (2 + length r.payload < 4294967296) × (r.kind < 65536)

abbrev pub AllFit : List Record → Type 0
AllFit rs = (i : ℕ) → i < length rs → FitsRecord (get_or rs i no_record)

abbrev pub frame_if : Bool → List ℕ → List (List ℕ) → List (List ℕ)
frame_if true f fs = f ∷ fs
frame_if false f fs = fs

unfoldable pub frames_in : List Record → List (List ℕ)
frames_in [] = []
frames_in (r ∷ rs) = frame_if (eqb r.kind 1) r.payload (frames_in rs)

-- c of kind 1, from 1 to 8, and none of kind 0
pub record SoundRest (c : ℕ) (rest : List Record) : Type 0 where
  pub fit : AllFit rest
  pub later : (i : ℕ) → i < length rest → (get_or rest i no_record).kind ≡ 0 → ⊥
  pub many : length (frames_in rest) ≡ c
  pub some : 1 ≤ c
  pub few : c ≤ 8

unfoldable pub records_of : List ℕ → List Record
records_of b = table (λ (r : ℕ). record_of (record_kind b r) (record_payload b r)) 0 (record_count b)

-- where r is the number of records, it starts at the end
abbrev pub with_record : List ℕ → ℕ → Record → List ℕ
with_record b r x = take (record_at b r) b ++ (record_bytes x ++ drop (record_at b r) b)
