-- Which bundles are accepted (docs/FORMAT.md, "Bundles").
--   AcceptedBundle b c     b is its records one after another; record 0 is the header with the counts c, and no other
--                          has its kind; c.frames of them are frames, each a file of c.slots slots (`FrameFile`)
--   BundleRest c rest      the same of a list of records behind the header
--   bundle-accepted        accepted bytes are such a bundle
--   bundle-accepted-iff    bytes are accepted exactly when they are the header and such records behind it
-- Axioms: none.
use Rattle.std.proofs.Common.{Ok}
use mathlib.Core.Path.{◌≡◌, sym, ap, subst, ◌∙◌}
use mathlib.Core.Logic.{◌↔◌}
use Prim.Native.Nat.{ℕ, ◌≤◌, ◌<◌}
use native.Mathlib.Omega.{arith}
use mathlib.Core.List.{List, [], ◌∷◌, ◌++◌}
use lib.ListN.{length, get_or, drop}
use Rattle.pciv_bytes.specs.LittleEndian.{le, Bytes}
use Rattle.pciv_bundle_records.specs.Records.{record_kind, record_payload, record_count, frames, records_outcome}
use Rattle.pciv_bundle_records.specs.Records.{slot_count, frame_count, Record, records_bytes}
use Rattle.pciv_bundle_records.specs.Records.{header_of}
use Rattle.pciv_bundle_records.specs.RecordList.{frames_in, SoundRest, records_of}
use Rattle.pciv_bundle_records.specs.declared.BundleCounts.{BundleCounts}
use Rattle.pciv_bundle_records.proofs.RecordsLaws.{frames-bytes, done-counts, done-accepted}
use Rattle.pciv_bundle_records.proofs.RecordBytesLaws.{rest-frames, rest-outcome}
use Rattle.pciv_bundle_records.proofs.RecordListLaws.{records-whole, records-first, records-later}
use Rattle.pciv_bundle_records.proofs.RecordListLaws.{whole-list, frames-list, sound-list}
use Rattle.pciv_bundle_frames.proofs.FrameFileLaws.{FrameFile, done-file, files-done}
use Rattle.pciv_bundle.specs.Bundle.{bundle_outcome}
use Rattle.pciv_bundle.proofs.BundleCaseLaws.{bundle-done, records-accepted, frames-accepted}

-- ---- what an accepted bundle is

pub record AcceptedBundle (b : List ℕ) (c : BundleCounts) : Type 0 where
  -- the records one after another
  pub whole : b ≡ records_bytes (records_of b)
  -- record 0 is the header, and no other has its kind
  pub header_kind : record_kind b 0 ≡ 0
  pub header_payload : record_payload b 0 ≡ le 4 c.slots ++ le 2 c.frames
  pub later : (r : ℕ) → 1 ≤ r → r < record_count b → record_kind b r ≡ 0 → ⊥
  -- as many frames as it says, each a file with as many slots
  pub some : 1 ≤ c.frames
  pub few : c.frames ≤ 8
  pub count : length (frames b) ≡ c.frames
  pub each : (f : ℕ) → f < c.frames → FrameFile c.slots (get_or (frames b) f [])

-- the same of a list of records behind the header
pub record BundleRest (c : BundleCounts) (rest : List Record) : Type 0 where
  pub sound : SoundRest c.frames rest
  pub each : (f : ℕ) → f < c.frames → FrameFile c.slots (get_or (frames_in rest) f [])

module _ (b : List ℕ) (c : BundleCounts) (accepted : bundle_outcome b ≡ Ok c) where
  records : records_outcome b ≡ Ok c
  records = records-accepted b c accepted

  module _ (bytes : Bytes b) where
    slots-are : c.slots ≡ slot_count b
    slots-are = ap (λ (k : BundleCounts). k.slots) (done-counts b c records)

    frames-are : c.frames ≡ frame_count b
    frames-are = ap (λ (k : BundleCounts). k.frames) (done-counts b c records)

    pub bundle-accepted : AcceptedBundle b c
    bundle-accepted =
        let a = done-accepted b c records in
        let first = records-first b bytes c records in
        record {
          whole = records-whole b bytes c records;
          header_kind = ap (λ (r : Record). r.kind) first;
          header_payload = rw (slots-are, frames-are) (ap (λ (r : Record). r.payload) first);
          later = records-later b bytes c records;
          some = omega (arith, a.header.some, frames-are);
          few = omega (arith, a.header.few, frames-are);
          count = a.counted ∙ sym frames-are;
          each = λ f h.
              (let inside : f < length (frames b) = omega (arith, a.counted, frames-are) in
              done-file c.slots _ (frames b) (frames-accepted b c accepted).1 f inside
              (frames-bytes b bytes f inside));
        }

    rest-accepted : BundleRest c (drop 1 (records_of b))
    rest-accepted =
        record {
          sound =
              subst (λ k. SoundRest k (drop 1 (records_of b))) (sym frames-are)
              (sound-list b bytes c records);
          each = λ f h.
              subst (λ fs. FrameFile c.slots (get_or fs f [])) (frames-list b bytes c records)
              (bundle-accepted.each f h);
        }

    bytes-accepted : b ≡ records_bytes (header_of c.slots c.frames ∷ drop 1 (records_of b))
    bytes-accepted = rw (slots-are, frames-are) (whole-list b bytes c records)

-- ---- and the other way

accepts : (c : BundleCounts) (rest : List Record) → BundleRest c rest
    → bundle_outcome (records_bytes (header_of c.slots c.frames ∷ rest)) ≡ Ok c
accepts c rest q =
    let first = q.each 0 q.sound.some in
    let few : c.slots < 4294967296 = omega (arith, first.slots, first.limits.count) in
    let files = files-done c.slots (frames_in rest) (λ f h. q.each f (omega (arith, q.sound.many))) in
    bundle-done _ c (rest-outcome c.slots c.frames rest q.sound few) c.slots
    (rw (rest-frames c.slots c.frames rest q.sound) files)

pub bundle-accepted-iff : (b : List ℕ) → Bytes b → (c : BundleCounts) → (bundle_outcome b ≡ Ok c)
    ↔ ((rest : List Record) × BundleRest c rest × (b ≡ records_bytes (header_of c.slots c.frames ∷ rest)))
bundle-accepted-iff b bytes c = (
  λ e. (drop 1 (records_of b), rest-accepted b c e bytes, bytes-accepted b c e bytes),
  λ x. ap bundle_outcome x.2 ∙ accepts c x.0 x.1,
)
