-- Laws of the bytes of records one after another: what is read of them is what the records are.
--   all_fit-cons, -rest         records that fit, with one in front, and without the first
--   length-record_bytes         a record has 6 bytes before its payload
--   records_bytes-append, -one  the bytes of two lists of records, and of one record
--   records-rest               what stands from record i on
--   frames_in-append, -other, -of    the frames of two lists of records; behind one that is no frame; of frames, each a
--                              record
--   records-at, records-count  where record i starts; how many there are
--   records-len, records-kind, records-payload    what is read of record i
--   records-frames, records-before    the frames; how many of them stand before record i
--   header_of-fits              record 0 fits its fields
--   records-slot_count, records-frame_count    what it says
--   rest-fit, rest-frames, rest-outcome    of a header and records that may stand behind it: they fit, their frames, and no refusal
--   bundle_of-slot_count, -frames, -sound    of the bundle of frames: its slot count, its frames; no refusal
-- Axioms: none.
use Rattle.std.proofs.Common.{Ok}
use mathlib.Core.Path.{◌≡◌, refl, sym, ap, ap₂, subst, ◌∙◌}
use Prim.Native.Nat.{ℕ, zero, suc, ◌+◌, ◌-◌, ◌≤◌, ◌<◌}
use native.Mathlib.Omega.{arith}
use mathlib.Core.Bool.{Bool, true, false, cond}
use mathlib.Core.List.{List, [], ◌∷◌, ◌++◌, map, append_assoc, append-nil}
use lib.ListN.{length, get_or, take, drop, length-append, take-append-drop, length-map}
use lib.Seq.{take_at, drop_at, drop-drop, drop-cons, take-suc, take-length}
use lib.Dec.{eqb, eqb-suc-zero, lit<}
use borrow.Author.Tests.{ne_eqb}
use Rattle.pciv_bytes.specs.LittleEndian.{le, get}
use Rattle.pciv_bytes.proofs.RangesLaws.{get_or-map_inside}
use Rattle.pciv_bytes.proofs.LittleEndianLaws.{length-le, get_at}
use Rattle.pciv_bundle_records.specs.Records.{record_at, record_len, record_kind, record_payload, record_count}
use Rattle.pciv_bundle_records.specs.Records.{slot_count, frame_count, is_frame, frames_before, frames, bad_header}
use Rattle.pciv_bundle_records.specs.Records.{bad_record, records_outcome, Record, record_of, record_bytes}
use Rattle.pciv_bundle_records.specs.Records.{records_bytes, bundle_records, bundle_of}
use Rattle.pciv_bundle_records.specs.Records.{header_of}
use Rattle.pciv_bundle_records.specs.RecordList.{no_record, FitsRecord, AllFit, frame_if, frames_in, SoundRest}
use Rattle.pciv_bundle_records.proofs.RecordsLaws.{record_count-end, frames_to, length-frames_to, frames-all}
use Rattle.pciv_bundle_records.proofs.RecordsLaws.{frames_to-zero, frames_to-frame, frames_to-other}
use Rattle.pciv_bundle_records.proofs.RecordsLaws.{Header, right-header, right-bad_record, records-done}

module _ (r : Record) (rs : List Record) where
  pub all_fit-cons : FitsRecord r → AllFit rs → AllFit (r ∷ rs)
  all_fit-cons f fit zero h = f
  all_fit-cons f fit (suc i) h = fit i (omega arith)

  pub all_fit-rest : AllFit (r ∷ rs) → AllFit rs
  all_fit-rest fit i h = fit (suc i) (omega arith)

-- ---- the bytes

pub length-record_bytes : (r : Record) → length (record_bytes r) ≡ 6 + length r.payload
unfolding record_bytes
length-record_bytes r = simp (length-append, length-le) (omega arith)

pub records_bytes-append : (rs ss : List Record) → records_bytes (rs ++ ss) ≡ records_bytes rs ++ records_bytes ss
unfolding records_bytes
records_bytes-append [] ss = refl
records_bytes-append (r ∷ rs) ss =
    ap (λ (l : List ℕ). record_bytes r ++ l) (records_bytes-append rs ss)
    ∙ sym (append_assoc (record_bytes r) (records_bytes rs) (records_bytes ss))

records_bytes-cons : (r : Record) (rs : List Record) → records_bytes (r ∷ rs) ≡ record_bytes r ++ records_bytes rs
unfolding records_bytes
records_bytes-cons r rs = refl

pub records_bytes-one : (r : Record) → records_bytes (r ∷ []) ≡ record_bytes r
unfolding records_bytes
records_bytes-one r = append-nil (record_bytes r)

records_bytes-nil : records_bytes [] ≡ []
unfolding records_bytes
records_bytes-nil = refl

-- where record i starts
abbrev place : List Record → ℕ → ℕ
place rs i = length (records_bytes (take i rs))

pub records-rest : (rs : List Record) (i : ℕ)
    → drop (length (records_bytes (take i rs))) (records_bytes rs) ≡ records_bytes (drop i rs)
records-rest rs i =
    ap (λ (l : List Record). drop (place rs i) (records_bytes l)) (sym (take-append-drop i rs))
    ∙ ap (drop (place rs i)) (records_bytes-append (take i rs) (drop i rs))
    ∙ drop_at (records_bytes (take i rs)) (records_bytes (drop i rs)) (place rs i) refl

-- one record more
place-suc : (rs : List Record) (i : ℕ) → i < length rs
    → place rs (suc i) ≡ place rs i + (6 + length (get_or rs i no_record).payload)
place-suc rs i h =
    ap (λ (l : List Record). length (records_bytes l)) (take-suc rs i no_record h)
    ∙ ap length (records_bytes-append (take i rs) (get_or rs i no_record ∷ []))
    ∙ length-append (records_bytes (take i rs)) (records_bytes (get_or rs i no_record ∷ []))
    ∙ ap (λ (l : ℕ). place rs i + l)
    (ap length (records_bytes-one (get_or rs i no_record)) ∙ length-record_bytes (get_or rs i no_record))

place-le : (rs : List Record) (i : ℕ) → place rs i ≤ length (records_bytes rs)
place-le rs i =
    let e = ap (λ (l : List Record). length (records_bytes l)) (take-append-drop i rs) in
    let e' = ap length (records_bytes-append (take i rs) (drop i rs)) in
    omega (arith, e, e', length-append (records_bytes (take i rs)) (records_bytes (drop i rs)))

-- record i, in its parts
parts : (rs : List Record) (i : ℕ) → i < length rs → drop (place rs i) (records_bytes rs)
    ≡ le 4 (2 + length (get_or rs i no_record).payload)
    ++ (le 2 (get_or rs i no_record).kind ++ ((get_or rs i no_record).payload ++ records_bytes (drop (suc i) rs)))
unfolding record_bytes
parts rs i h =
    records-rest rs i
    ∙ ap records_bytes (drop-cons rs i no_record h)
    ∙ records_bytes-cons (get_or rs i no_record) (drop (suc i) rs)
    ∙ simp append_assoc

-- past a part of what stands there
behind : (b p q : List ℕ) (at len to : ℕ) → drop at b ≡ p ++ q → length p ≡ len → at + len ≡ to → drop to b ≡ q
behind b p q at len to e size sum =
    ap (λ (i : ℕ). drop i b) (sym sum) ∙ sym (drop-drop len at b) ∙ ap (drop len) e ∙ drop_at p q len size

kind-on : (rs : List Record) (i : ℕ) → i < length rs → drop (place rs i + 4) (records_bytes rs)
    ≡ le 2 (get_or rs i no_record).kind ++ ((get_or rs i no_record).payload ++ records_bytes (drop (suc i) rs))
kind-on rs i h =
    behind (records_bytes rs) (le 4 (2 + length (get_or rs i no_record).payload)) _ (place rs i) 4 _ (parts rs i h)
    (length-le 4 _) refl

payload-on : (rs : List Record) (i : ℕ) → i < length rs
    → drop (place rs i + 6) (records_bytes rs) ≡ (get_or rs i no_record).payload ++ records_bytes (drop (suc i) rs)
payload-on rs i h =
    behind (records_bytes rs) (le 2 (get_or rs i no_record).kind) _ (place rs i + 4) 2 (place rs i + 6)
    (kind-on rs i h) (length-le 2 _) (omega arith)

-- ---- the frames among records

pub frames_in-append : (rs ss : List Record) → frames_in (rs ++ ss) ≡ frames_in rs ++ frames_in ss
unfolding frames_in
frames_in-append [] ss = refl
frames_in-append (r ∷ rs) ss = rw (frames_in-append rs ss) (go (eqb r.kind 1))
  where
    go : (t : Bool) → frame_if t r.payload (frames_in rs ++ frames_in ss)
        ≡ frame_if t r.payload (frames_in rs) ++ frames_in ss
    go true = refl
    go false = refl

frames_in-frame : (r : Record) (rs : List Record) → eqb r.kind 1 ≡ true → frames_in (r ∷ rs) ≡ r.payload ∷ frames_in rs
unfolding frames_in
frames_in-frame r rs e = rw e

pub frames_in-other : (r : Record) (rs : List Record) → eqb r.kind 1 ≡ false → frames_in (r ∷ rs) ≡ frames_in rs
unfolding frames_in
frames_in-other r rs e = rw e

pub frames_in-of : (fs : List (List ℕ)) → frames_in (map (record_of 1) fs) ≡ fs
unfolding frames_in
frames_in-of [] = refl
frames_in-of (f ∷ fs) = ap (λ (l : List (List ℕ)). f ∷ l) (frames_in-of fs)

-- a frame among the records has a place among the frames
frames_in-more : (rs : List Record) (i : ℕ) → i < length rs → eqb (get_or rs i no_record).kind 1 ≡ true
    → length (frames_in (take i rs)) < length (frames_in rs)
unfolding frames_in
frames_in-more rs i h e =
    let split = ap (λ (l : List Record). length (frames_in l)) (take-append-drop i rs) in
    let apart = ap length (frames_in-append (take i rs) (drop i rs)) in
    let here : length (frames_in (drop i rs)) ≡ suc (length (frames_in (drop (suc i) rs))) =
    rw (drop-cons rs i no_record h, e) in
    omega (arith, split, apart, here, length-append (frames_in (take i rs)) (frames_in (drop i rs)))

-- ---- what is read

module _ (rs : List Record) (fit : AllFit rs) where
  len-at : (i : ℕ) → i < length rs
      → get 4 (records_bytes rs) (place rs i) ≡ 2 + length (get_or rs i no_record).payload
  len-at i h = get_at 4 (records_bytes rs) (place rs i) _ _ (parts rs i h) (fit i h).0

  pub records-at : (i : ℕ) → i ≤ length rs → record_at (records_bytes rs) i ≡ length (records_bytes (take i rs))
  unfolding record_at
  records-at zero h = sym (ap length records_bytes-nil)
  records-at (suc i) h =
      let ih = records-at i (omega arith) in
      let inside : i < length rs = omega arith in
      rw (ih, len-at i inside) (omega (arith, place-suc rs i inside))

  pub records-len : (i : ℕ) → i < length rs
      → record_len (records_bytes rs) i ≡ 2 + length (get_or rs i no_record).payload
  unfolding record_len
  records-len i h = rw (records-at i (omega arith)) (len-at i h)

  pub records-kind : (i : ℕ) → i < length rs → record_kind (records_bytes rs) i ≡ (get_or rs i no_record).kind
  unfolding record_kind
  records-kind i h =
      rw (records-at i (omega arith))
      (get_at 2 (records_bytes rs) (place rs i + 4) _ _ (kind-on rs i h) (fit i h).1)

  pub records-payload : (i : ℕ) → i < length rs → record_payload (records_bytes rs) i ≡ (get_or rs i no_record).payload
  unfolding record_payload
  records-payload i h =
      rw (records-at i (omega arith), records-len i h)
      (ap₂ (λ (l : ℕ) (b : List ℕ). take l b) (sized (length (get_or rs i no_record).payload)) (payload-on rs i h)
      ∙ take_at (get_or rs i no_record).payload (records_bytes (drop (suc i) rs)) _ refl)
    where
      sized : (l : ℕ) → 2 + l - 2 ≡ l
      sized l = omega arith

  end-le : (i : ℕ) → i < length rs → record_at (records_bytes rs) (suc i) ≤ length (records_bytes rs)
  end-le i h = omega (arith, records-at (suc i) (omega arith), place-le rs (suc i))

  records-end : record_at (records_bytes rs) (length rs) ≡ length (records_bytes rs)
  records-end =
      records-at (length rs) (omega arith) ∙ ap (λ (l : List Record). length (records_bytes l)) (take-length rs)

  pub records-count : record_count (records_bytes rs) ≡ length rs
  records-count = record_count-end (records_bytes rs) (length rs) records-end

  -- those below record i
  frames-below : (i : ℕ) → i ≤ length rs → frames_to (records_bytes rs) i ≡ frames_in (take i rs)
  unfolding frames_in
  frames-below zero h = frames_to-zero (records_bytes rs)
  frames-below (suc i) h =
      let inside : i < length rs = omega arith in
      go (is_frame (records_bytes rs) i) refl inside (frames-below i (omega arith))
      ∙ sym (ap frames_in (take-suc rs i no_record inside) ∙ frames_in-append (take i rs) (get_or rs i no_record ∷ []))
    where
      go : (t : Bool) → is_frame (records_bytes rs) i ≡ t → i < length rs
          → frames_to (records_bytes rs) i ≡ frames_in (take i rs)
          → frames_to (records_bytes rs) (suc i) ≡ frames_in (take i rs) ++ frames_in (get_or rs i no_record ∷ [])
      go true e inside ih =
          frames_to-frame (records_bytes rs) i e
          ∙ ap₂ (λ (fs : List (List ℕ)) (f : List ℕ). fs ++ f ∷ []) ih (records-payload i inside)
          ∙ ap (λ (fs : List (List ℕ)). frames_in (take i rs) ++ fs)
          (sym (frames_in-frame (get_or rs i no_record) [] (rw (records-kind i inside) at e)))
      go false e inside ih =
          frames_to-other (records_bytes rs) i e ∙ ih
          ∙ sym
          (ap (λ (fs : List (List ℕ)). frames_in (take i rs) ++ fs)
          (frames_in-other (get_or rs i no_record) [] (rw (records-kind i inside) at e))
          ∙ append-nil (frames_in (take i rs)))

  pub records-frames : frames (records_bytes rs) ≡ frames_in rs
  records-frames =
      frames-all (records_bytes rs) (length rs) records-count
      ∙ frames-below (length rs) (omega arith)
      ∙ ap frames_in (take-length rs)

  pub records-before : (i : ℕ) → i ≤ length rs
      → frames_before (records_bytes rs) i ≡ length (frames_in (take i rs))
  records-before i h = sym (length-frames_to (records_bytes rs) i) ∙ ap length (frames-below i h)

-- ---- record 0

module _ (n c : ℕ) (rs : List Record) where
  pub records-slot_count : n < 4294967296 → slot_count (records_bytes (header_of n c ∷ rs)) ≡ n
  unfolding records_bytes record_bytes le
  records-slot_count h = get_at 4 (records_bytes (header_of n c ∷ rs)) 6 n (le 2 c ++ records_bytes rs) refl h

  pub records-frame_count : c < 65536 → frame_count (records_bytes (header_of n c ∷ rs)) ≡ c
  unfolding records_bytes record_bytes le
  records-frame_count h = get_at 2 (records_bytes (header_of n c ∷ rs)) 10 c (records_bytes rs) refl h

pub header_of-fits : (n c : ℕ) → FitsRecord (header_of n c)
unfolding le
header_of-fits n c = (lit< tt, lit< tt)

-- ---- of a header and records behind it

module _ (n c : ℕ) (rest : List Record) (sound : SoundRest c rest) where
  abbrev rs : List Record
  rs = header_of n c ∷ rest

  abbrev b : List ℕ
  b = records_bytes rs

  pub rest-fit : AllFit (header_of n c ∷ rest)
  rest-fit = all_fit-cons (header_of n c) rest (header_of-fits n c) sound.fit

  frames_in-all : length (frames_in rs) ≡ c
  unfolding frames_in
  frames_in-all = sound.many

  pub rest-frames : frames (records_bytes (header_of n c ∷ rest)) ≡ frames_in rest
  unfolding frames_in
  rest-frames = records-frames rs rest-fit

  count : frame_count b ≡ c
  count = records-frame_count n c rest (omega (arith, sound.few))

  header : Header b
  unfolding record_kind record_len record_at le
  header =
      record {
        kind = records-kind rs rest-fit 0 (omega arith);
        len = records-len rs rest-fit 0 (omega arith);
        some = omega (arith, count, sound.some);
        few = omega (arith, count, sound.few);
      }

  -- each record has the kind that it has to have, and no frame is one too many
  kind-right : (i : ℕ) → i < length rs → cond (eqb i 0) (bad_header b) (eqb (record_kind b i) 0) ≡ false
  kind-right zero h = right-header b header
  kind-right (suc i) h =
      rw (eqb-suc-zero i, records-kind rs rest-fit (suc i) h) (ne_eqb _ 0 (sound.later i (omega arith)))

  clear : (i : ℕ) → i < length rs → bad_record b i ≡ false
  clear i h =
      right-bad_record b i
      (record {
        inside = end-le rs rest-fit i h;
        long = omega (arith, records-len rs rest-fit i h);
        kind = kind-right i h;
        room = λ e.
            omega (
              arith,
              frames_in-more rs i h (rw (records-kind rs rest-fit i h) at e),
              frames_in-all,
              records-before rs rest-fit i (omega arith),
              count,
            );
      })

  pub rest-outcome : n < 4294967296
      → records_outcome (records_bytes (header_of n c ∷ rest)) ≡ Ok (record { slots = n; frames = c })
  rest-outcome few =
      let found = records-before rs rest-fit (length rs) (omega arith) in
      let whole = ap (λ (l : List Record). length (frames_in l)) (take-length rs) in
      records-done b (length rs) clear (records-end rs rest-fit) (omega arith)
      (omega (arith, found, whole, frames_in-all, count))
      ∙ ap₂ (λ (x y : ℕ). Ok (record { slots = x; frames = y })) (records-slot_count n c rest few) count

-- ---- the bundle of frames

frame-record : (fs : List (List ℕ)) (i : ℕ) → i < length fs
    → get_or (map (record_of 1) fs) i no_record ≡ record_of 1 (get_or fs i [])
frame-record fs i h = get_or-map_inside (record_of 1) fs i [] no_record h

pub bundle_of-slot_count : (n : ℕ) (fs : List (List ℕ)) → n < 4294967296 → slot_count (bundle_of n fs) ≡ n
unfolding bundle_of bundle_records
bundle_of-slot_count n fs = records-slot_count n (length fs) (map (record_of 1) fs)

module _ (n : ℕ) (fs : List (List ℕ))
    (each : (f : ℕ) → f < length fs → 2 + length (get_or fs f []) < 4294967296) where
  frames-fit : AllFit (map (record_of 1) fs)
  frames-fit i h =
      let inside : i < length fs = omega (arith, length-map fs (record_of 1)) in
      subst FitsRecord (sym (frame-record fs i inside)) (each i inside, lit< tt)

  no_header : (i : ℕ) → i < length (map (record_of 1) fs) → (get_or (map (record_of 1) fs) i no_record).kind ≡ 0 → ⊥
  no_header i h e =
      let inside : i < length fs = omega (arith, length-map fs (record_of 1)) in
      omega (arith, e, ap (λ (r : Record). r.kind) (frame-record fs i inside))

  pub bundle_of-frames : frames (bundle_of n fs) ≡ fs
  unfolding bundle_of bundle_records frames_in
  bundle_of-frames =
      records-frames (header_of n (length fs) ∷ map (record_of 1) fs)
      (all_fit-cons (header_of n (length fs)) (map (record_of 1) fs) (header_of-fits n (length fs)) frames-fit)
      ∙ frames_in-of fs

  pub bundle_of-sound : 1 ≤ length fs → length fs ≤ 8 → n < 4294967296
      → records_outcome (bundle_of n fs) ≡ Ok (record { slots = n; frames = length fs })
  unfolding bundle_of bundle_records
  bundle_of-sound some few =
      rest-outcome n (length fs) (map (record_of 1) fs)
      (record { fit = frames-fit; later = no_header; many = ap length (frames_in-of fs); some = some; few = few })
