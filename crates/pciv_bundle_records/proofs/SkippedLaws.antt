-- A record that is neither header nor frame, put in among the records of bytes that pass refusal 14.
--   skipped-frames, -outcome, -slots    frames, outcome and slot count stay
-- Axioms: none.
use Rattle.std.proofs.Common.{Ok}
use mathlib.Core.Path.{◌≡◌, refl, sym, ap, ap₂, ◌∙◌}
use Prim.Native.Nat.{ℕ, zero, suc, ◌-◌, ◌≤◌, ◌<◌}
use native.Mathlib.Omega.{arith}
use mathlib.Core.List.{List, [], ◌∷◌, ◌++◌}
use lib.ListN.{length, get_or, take, drop, take-append-drop, length-drop}
use lib.Seq.{take_at}
use borrow.Author.Tests.{ne_eqb}
use Rattle.pciv_bytes.specs.LittleEndian.{Bytes}
use Rattle.pciv_bytes.proofs.LittleEndianLaws.{get-lt}
use Rattle.pciv_bundle_records.specs.Records.{record_at, record_count, slot_count, frame_count, frames, counts_in}
use Rattle.pciv_bundle_records.specs.Records.{records_outcome, Record, record_bytes, records_bytes}
use Rattle.pciv_bundle_records.specs.Records.{header_of}
use Rattle.pciv_bundle_records.specs.RecordList.{no_record, FitsRecord, AllFit, frames_in, SoundRest, records_of, with_record}
use Rattle.pciv_bundle_records.specs.declared.BundleCounts.{BundleCounts}
use Rattle.pciv_bundle_records.proofs.RecordsLaws.{done-counts}
use Rattle.pciv_bundle_records.proofs.RecordBytesLaws.{records_bytes-append}
use Rattle.pciv_bundle_records.proofs.RecordBytesLaws.{frames_in-append, frames_in-other, records-at, records-rest}
use Rattle.pciv_bundle_records.proofs.RecordBytesLaws.{rest-fit, rest-frames, rest-outcome}
use Rattle.pciv_bundle_records.proofs.RecordListLaws.{length-records_of, whole-list, frames-list, sound-list}

-- ---- lists of records

-- rs with x before record r, or at the end
abbrev with : List Record → ℕ → Record → List Record
with rs r x = take r rs ++ x ∷ drop r rs

-- a property of each record
each-with : (P : Record → Type 0) (x : Record) → P x → (rs : List Record) (r : ℕ)
    → ((i : ℕ) → i < length rs → P (get_or rs i no_record))
    → (i : ℕ) → i < length (with rs r x) → P (get_or (with rs r x) i no_record)
each-with P x p rs zero each zero h = p
each-with P x p rs zero each (suc i) h = each i (omega arith)
each-with P x p [] (suc r) each zero h = p
each-with P x p [] (suc r) each (suc i) h = absurd (omega arith)
each-with P x p (y ∷ rs) (suc r) each zero h = each 0 (omega arith)
each-with P x p (y ∷ rs) (suc r) each (suc i) h =
    each-with P x p rs r (λ j l. each (suc j) (omega arith)) i (omega arith)

-- what is no frame leaves the frames
frames_in-with : (rs : List Record) (r : ℕ) (x : Record) → (x.kind ≡ 1 → ⊥) → frames_in (with rs r x) ≡ frames_in rs
frames_in-with rs r x other =
    frames_in-append (take r rs) (x ∷ drop r rs)
    ∙ ap (λ (fs : List (List ℕ)). frames_in (take r rs) ++ fs) (frames_in-other x (drop r rs) (ne_eqb x.kind 1 other))
    ∙ sym (frames_in-append (take r rs) (drop r rs))
    ∙ ap frames_in (take-append-drop r rs)

sound-with : (c : ℕ) (rest : List Record) (r : ℕ) (x : Record) → SoundRest c rest → FitsRecord x → 2 ≤ x.kind
    → SoundRest c (with rest r x)
sound-with c rest r x sound fits other =
    record {
      fit = each-with FitsRecord x fits rest r sound.fit;
      later = each-with (λ y. y.kind ≡ 0 → ⊥) x (λ e. omega arith) rest r sound.later;
      many = ap length (frames_in-with rest r x (λ e. omega arith)) ∙ sound.many;
      some = sound.some;
      few = sound.few;
    }

-- ---- their bytes

module _ (rs : List Record) (fit : AllFit rs) (r : ℕ) (h : r ≤ length rs) where
  before : take (record_at (records_bytes rs) r) (records_bytes rs) ≡ records_bytes (take r rs)
  before =
      rw (records-at rs fit r h)
      (ap (λ (l : List Record). take (length (records_bytes (take r rs))) (records_bytes l)) (sym (take-append-drop r rs))
      ∙ ap (take (length (records_bytes (take r rs)))) (records_bytes-append (take r rs) (drop r rs))
      ∙ take_at (records_bytes (take r rs)) (records_bytes (drop r rs)) _ refl)

  from : drop (record_at (records_bytes rs) r) (records_bytes rs) ≡ records_bytes (drop r rs)
  from = rw (records-at rs fit r h) (records-rest rs r)

  bytes-with : (x : Record) → with_record (records_bytes rs) r x ≡ records_bytes (with rs r x)
  unfolding records_bytes
  bytes-with x =
      ap₂ (λ (p q : List ℕ). p ++ (record_bytes x ++ q)) before from
      ∙ sym (records_bytes-append (take r rs) (x ∷ drop r rs))

-- ---- of accepted bytes

module _ (b : List ℕ) (bytes : Bytes b) (c : BundleCounts) (accepted : records_outcome b ≡ Ok c)
    (r : ℕ) (low : 1 ≤ r) (high : r ≤ record_count b) (x : Record) (fits : FitsRecord x) (other : 2 ≤ x.kind) where
  abbrev old : List Record
  old = drop 1 (records_of b)

  abbrev header : Record
  header = header_of (slot_count b) (frame_count b)

  old-sound : SoundRest (frame_count b) old
  old-sound = sound-list b bytes c accepted

  new-sound : SoundRest (frame_count b) (with old (r - 1) x)
  new-sound = sound-with (frame_count b) old (r - 1) x old-sound fits other

  inserted : with_record b r x ≡ records_bytes (header ∷ with old (r - 1) x)
  inserted =
      let e : r ≡ suc (r - 1) = omega arith in
      let inside : suc (r - 1) ≤ length (header ∷ old) =
      omega (arith, length-drop 1 (records_of b), length-records_of b) in
      ap (λ (i : ℕ). with_record b i x) e
      ∙ ap (λ (l : List ℕ). with_record l (suc (r - 1)) x) (whole-list b bytes c accepted)
      ∙ bytes-with (header ∷ old) (rest-fit (slot_count b) (frame_count b) old old-sound) (suc (r - 1)) inside x

  pub skipped-frames : frames (with_record b r x) ≡ frames b
  skipped-frames =
      ap frames inserted
      ∙ rest-frames (slot_count b) (frame_count b) (with old (r - 1) x) new-sound
      ∙ frames_in-with old (r - 1) x (λ e. omega arith)
      ∙ sym (frames-list b bytes c accepted)

  new-outcome : records_outcome (with_record b r x) ≡ Ok (counts_in b)
  new-outcome =
      ap records_outcome inserted
      ∙ rest-outcome (slot_count b) (frame_count b) (with old (r - 1) x) new-sound (get-lt 4 b 6 bytes)

  pub skipped-outcome : records_outcome (with_record b r x) ≡ records_outcome b
  skipped-outcome = new-outcome ∙ ap Ok (sym (done-counts b c accepted)) ∙ sym accepted

  pub skipped-slots : slot_count (with_record b r x) ≡ slot_count b
  skipped-slots =
      sym (ap (λ (k : BundleCounts). k.slots) (done-counts (with_record b r x) (counts_in b) new-outcome))
