-- Bytes that pass refusal 14 as a list of records.
--   record_in b r               record r of b
--   length-records_of, get_or-records_of    how many records there are, and which they are
--   records-fit                each fits its fields
--   records-whole              the bytes are the records, one after another
--   records-first, records-later    record 0 is the header with the two counts, and no other has kind 0
--   records-list, whole-list   the records of b are its header and the others, and so are the bytes
--   frames-list, sound-list    the frames are those of the others, which are such records
-- Axioms: none.
use Rattle.std.proofs.Common.{Ok}
use mathlib.Core.Path.{◌≡◌, refl, sym, ap, ap₂, ◌∙◌}
use Prim.Native.Nat.{ℕ, zero, suc, ◌+◌, ◌-◌, ◌≤◌, ◌<◌}
use native.Mathlib.Nat.{zero-add, le_refl}
use native.Mathlib.Omega.{arith}
use native.Mathlib.Numerals.{add-one}
use mathlib.Core.List.{List, [], ◌∷◌, ◌++◌}
use lib.ListN.{length, get_or, take, drop, length-drop}
use lib.Seq.{take-add, drop-drop, take-length, length-take-le, drop-cons, get_or-drop}
use Rattle.pciv_bytes.specs.Ranges.{table}
use Rattle.pciv_bytes.specs.LittleEndian.{le, get, Bytes}
use Rattle.pciv_bytes.proofs.RangesLaws.{length-table, get_or-table, table-append}
use Rattle.pciv_bytes.proofs.LittleEndianLaws.{le-get, get-lt}
use Rattle.pciv_bundle_records.specs.Records.{record_at, record_len, record_kind, record_payload, record_count}
use Rattle.pciv_bundle_records.specs.Records.{slot_count, frame_count, frames, records_outcome}
use Rattle.pciv_bundle_records.specs.Records.{Record, record_of, record_bytes, records_bytes}
use Rattle.pciv_bundle_records.specs.Records.{header_of}
use Rattle.pciv_bundle_records.specs.RecordList.{no_record, AllFit, frames_in, SoundRest, records_of}
use Rattle.pciv_bundle_records.specs.declared.BundleCounts.{BundleCounts}
use Rattle.pciv_bundle_records.proofs.RecordsLaws.{record_at-next, record_count-reaches, Right, bad_record-right}
use Rattle.pciv_bundle_records.proofs.RecordsLaws.{bad_record-later, wrong-right, Accepted, done-accepted}
use Rattle.pciv_bundle_records.proofs.RecordBytesLaws.{all_fit-rest}
use Rattle.pciv_bundle_records.proofs.RecordBytesLaws.{records_bytes-append, records_bytes-one, records-frames}

abbrev pub record_in : List ℕ → ℕ → Record
record_in b r = record_of (record_kind b r) (record_payload b r)

pub length-records_of : (b : List ℕ) → length (records_of b) ≡ record_count b
unfolding records_of
length-records_of b = length-table (record_in b) 0 (record_count b)

pub get_or-records_of : (b : List ℕ) (r : ℕ) → r < record_count b → get_or (records_of b) r no_record ≡ record_in b r
unfolding records_of
get_or-records_of b r h = get_or-table (record_in b) no_record 0 (record_count b) r h ∙ ap (record_in b) (zero-add r)

record_at-suc : (b : List ℕ) (r : ℕ) → record_at b (suc r) ≡ record_at b r + (4 + record_len b r)
unfolding record_len
record_at-suc b r = omega (arith, record_at-next b r)

-- a record's length, kind and payload
parts : (b : List ℕ) (at l : ℕ) → 2 ≤ l
    → take (4 + l) (drop at b) ≡ take 4 (drop at b) ++ (take 2 (drop (at + 4) b) ++ take (l - 2) (drop (at + 6) b))
parts b at l h =
    let e : l ≡ 2 + (l - 2) = omega arith in
    let e' : at + 4 + 2 ≡ at + 6 = omega arith in
    take-add 4 l (drop at b)
    ∙ ap (λ (t : List ℕ). take 4 (drop at b) ++ t)
    (ap (take l) (drop-drop 4 at b)
    ∙ ap (λ (n : ℕ). take n (drop (at + 4) b)) e
    ∙ take-add 2 (l - 2) (drop (at + 4) b)
    ∙ ap (λ (t : List ℕ). take 2 (drop (at + 4) b) ++ take (l - 2) t)
    (drop-drop 2 (at + 4) b ∙ ap (λ (n : ℕ). drop n b) e'))

module _ (b : List ℕ) (bytes : Bytes b) (c : BundleCounts) (accepted : records_outcome b ≡ Ok c) where
  sound : Accepted b
  sound = done-accepted b c accepted

  right : (r : ℕ) → r < record_count b → Right b r
  right r h = bad_record-right b r (sound.clear r h)

  inside : (r : ℕ) → r < record_count b → record_at b r + (4 + record_len b r) ≤ length b
  inside r h = omega (arith, record_at-suc b r, (right r h).inside)

  -- the length counts kind and payload
  length-payload : (r : ℕ) → r < record_count b → 2 + length (record_payload b r) ≡ record_len b r
  unfolding record_payload
  length-payload r h =
      let fits : record_len b r - 2 ≤ length (drop (record_at b r + 6) b) =
      simp length-drop (omega (arith, inside r h, (right r h).long)) in
      omega (arith, length-take-le (record_len b r - 2) (drop (record_at b r + 6) b) fits, (right r h).long)

  pub records-fit : AllFit (records_of b)
  unfolding record_len record_kind
  records-fit r h =
      let h' : r < record_count b = omega (arith, length-records_of b) in
      let len : get 4 b (record_at b r) < 4294967296 = get-lt 4 b (record_at b r) bytes in
      let kind : get 2 b (record_at b r + 4) < 65536 = get-lt 2 b (record_at b r + 4) bytes in
      rw (get_or-records_of b r h') (omega (arith, length-payload r h'), kind)

  length-bytes : (r : ℕ) → r < record_count b → le 4 (record_len b r) ≡ take 4 (drop (record_at b r) b)
  unfolding record_len
  length-bytes r h = le-get 4 b (record_at b r) bytes (omega (arith, inside r h))

  kind-bytes : (r : ℕ) → r < record_count b → le 2 (record_kind b r) ≡ take 2 (drop (record_at b r + 4) b)
  unfolding record_kind
  kind-bytes r h = le-get 2 b (record_at b r + 4) bytes (omega (arith, inside r h, (right r h).long))

  -- record r, where it stands
  record-bytes : (r : ℕ) → r < record_count b
      → record_bytes (record_in b r) ≡ take (4 + record_len b r) (drop (record_at b r) b)
  unfolding record_bytes record_payload
  record-bytes r h =
      rw (length-payload r h, length-bytes r h, kind-bytes r h)
      (sym (parts b (record_at b r) (record_len b r) (right r h).long))

  -- the records below r
  below : (r : ℕ) → r ≤ record_count b → take (record_at b r) b ≡ records_bytes (table (record_in b) 0 r)
  unfolding record_at records_bytes table
  below zero h = refl
  below (suc r) h =
      let f : ℕ → Record = record_in b in
      ap (λ (n : ℕ). take n b) (record_at-suc b r)
      ∙ take-add (record_at b r) (4 + record_len b r) b
      ∙ ap₂ (λ (p q : List ℕ). p ++ q) (below r (omega arith)) (sym (record-bytes r (omega arith)))
      ∙ sym
      (ap (λ (n : ℕ). records_bytes (table f 0 n)) (sym (add-one r))
      ∙ ap records_bytes (table-append f r 0 1 ∙ ap (λ (i : ℕ). table f 0 r ++ (f i ∷ [])) (zero-add r))
      ∙ records_bytes-append (table f 0 r) (f r ∷ [])
      ∙ ap (λ (l : List ℕ). records_bytes (table f 0 r) ++ l) (records_bytes-one (f r)))

  -- the last one ends where b does
  records-end : record_at b (record_count b) ≡ length b
  records-end =
      let k : ℕ = record_count b in
      let last : k - 1 < k = omega (arith, sound.records) in
      let e : suc (k - 1) ≡ k = omega arith in
      omega (arith, record_count-reaches b, ap (record_at b) e, (right (k - 1) last).inside)

  pub records-whole : b ≡ records_bytes (records_of b)
  unfolding records_of
  records-whole =
      sym (take-length b)
      ∙ ap (λ (n : ℕ). take n b) (sym records-end)
      ∙ below (record_count b) (le_refl (record_count b))

  -- the payload of record 0
  header-payload : record_payload b 0 ≡ le 4 (slot_count b) ++ le 2 (frame_count b)
  unfolding record_payload record_len record_at
  header-payload =
      let whole : 12 ≤ length b = omega (arith, inside 0 sound.records, sound.header.len) in
      rw (sound.header.len, le-get 4 b 6 bytes (omega arith), le-get 2 b 10 bytes (omega arith))
      (take-add 4 2 (drop 6 b) ∙ ap (λ (l : List ℕ). take 4 (drop 6 b) ++ take 2 l) (drop-drop 4 6 b))

  pub records-first : record_in b 0 ≡ header_of (slot_count b) (frame_count b)
  unfolding record_kind record_at
  records-first = ap₂ record_of sound.header.kind header-payload

  pub records-later : (r : ℕ) → 1 ≤ r → r < record_count b → record_kind b r ≡ 0 → ⊥
  unfolding record_kind
  records-later r h l = (wrong-right b _ _ _ (sym (bad_record-later b r h) ∙ sound.clear r l)).kind

  pub records-list : records_of b ≡ header_of (slot_count b) (frame_count b) ∷ drop 1 (records_of b)
  records-list =
      drop-cons (records_of b) 0 no_record (omega (arith, length-records_of b, sound.records))
      ∙ ap (λ (r : Record). r ∷ drop 1 (records_of b)) (get_or-records_of b 0 sound.records ∙ records-first)

  pub whole-list : b ≡ records_bytes (header_of (slot_count b) (frame_count b) ∷ drop 1 (records_of b))
  whole-list = records-whole ∙ ap records_bytes records-list

  pub frames-list : frames b ≡ frames_in (drop 1 (records_of b))
  unfolding frames_in
  frames-list =
      ap frames records-whole ∙ records-frames (records_of b) records-fit ∙ ap frames_in records-list

  -- record i behind the header
  behind-header : (i : ℕ) → i < length (drop 1 (records_of b)) → (i + 1 < record_count b)
      × (get_or (drop 1 (records_of b)) i no_record ≡ record_in b (i + 1))
  behind-header i h =
      let inside : i + 1 < record_count b = omega (arith, length-drop 1 (records_of b), length-records_of b) in
      let e : 1 + i ≡ i + 1 = omega arith in
      (inside, get_or-drop 1 (records_of b) i no_record ∙ rw e (get_or-records_of b (i + 1) inside))

  pub sound-list : SoundRest (frame_count b) (drop 1 (records_of b))
  sound-list =
      record {
        fit =
            all_fit-rest (header_of (slot_count b) (frame_count b)) (drop 1 (records_of b))
            (rw records-list at records-fit);
        later = λ i h e.
            (let r = behind-header i h in
            records-later (i + 1) (omega arith) r.0 (ap (λ (x : Record). x.kind) (sym r.1) ∙ e));
        many = ap length (sym frames-list) ∙ sound.counted;
        some = sound.header.some;
        few = sound.header.few;
      }
