-- Laws of the records of a bundle: where they start, how many there are, what a right one says, and each outcome.
--   record_at-first, -next, -rise, -low    where records start
--   record_count-end, -reaches, -past    how many there are, where the next would start at the end; the next starts there or
--                             past it; more than a record before the end
--   frames_to b r              the frames among the records below r
--   length-frames_to, frames-all, frames-bytes    how many they are; all of them; they are bytes
--   frames_to-zero, -frame, -other    none, and those below the next record, where record r is a frame or is not
--   frames_before-frame, -other    the same of their number
--   Header b, header-right, right-header    what a record 0 that is not at fault says, and only such a one
--   header-end, header-frames    where it ends; no frame stands below record 1
--   Later b at found count, wrong-right    what a later record that is not at fault says
--   Right b r, bad_record-right, right-bad_record    the same of any record
--   bad_record-first, first-right, bad_record-later    whether record 0 is at fault, and whether a later one is
--   records-header, -refused, -missing, -done    the outcomes
--   frames-few                no more frames than record 0 says
--   Accepted b, done-counts, done-accepted    what a done outcome says
-- Axioms: none.
use Rattle.std.proofs.Common.{Ok}
use Rattle.pciv_format.specs.declared.RefusalKind.TheVariants.{BadBundle}
use mathlib.Core.Path.{◌≡◌, refl, sym, ap, ◌∙◌}
use Prim.Native.Nat.{ℕ, zero, suc, ◌+◌, ◌*◌, ◌-◌, ◌≤◌, ◌<◌}
use native.Mathlib.Nat.{zero-add}
use native.Mathlib.Omega.{arith}
use native.Mathlib.Decide.{dec_le}
use native.Mathlib.Numerals.{add-one}
use mathlib.Core.Bool.{Bool, true, false, cond, ◌||◌}
use mathlib.Core.List.{List, [], ◌∷◌, ◌++◌, map, map-append, append-nil}
use lib.ListN.{length, get_or, drop, length-append, length-map}
use lib.Dec.{ltb, leb, eqb}
use borrow.Author.Tests.{lt-ltb, le-ltb, le-leb, lt-leb, ne_eqb}
use borrow.Author.Tests.{ltb-false, leb-true, eqb-false}
use Rattle.std.proofs.lemmas.Bool.Decides.{nat_tests}
use Rattle.pciv_bytes.specs.Ranges.{first_below, positions, keep_if}
use Rattle.pciv_bytes.specs.LittleEndian.{get, Bytes}
use Rattle.pciv_bytes.proofs.RangesLaws.{true-false, get_or-map_inside, first_below-at, first_below-none, first_below-has}
use Rattle.pciv_bytes.proofs.LittleEndianLaws.{bytes_drop, bytes_take}
use Rattle.pciv_bytes.proofs.PositionsLaws.{positions-append, rises}
use Rattle.pciv_format.specs.Refusals.{Outcome, refuse, refuse_if}
use Rattle.pciv_format.proofs.RefusalsLaws.{refuse_if-done, refuse_first-done, refuse_first-none, refuse_first-some}
use Rattle.pciv_format.proofs.PartsLaws.{or-false, or-true}
use Rattle.pciv_bundle_records.specs.Records.{behind_record, record_at, record_len, record_kind, record_payload, record_count}
use Rattle.pciv_bundle_records.specs.Records.{frame_count, is_frame, frames_before, frames, bad_header, bad_record}
use Rattle.pciv_bundle_records.specs.Records.{wrong_record, counts_in, records_outcome}
use Rattle.pciv_bundle_records.specs.declared.BundleCounts.{BundleCounts}

-- ---- where records start

module _ (b : List ℕ) where
  pub record_at-first : record_at b 0 ≡ 0
  unfolding record_at
  record_at-first = refl

  pub record_at-next : (r : ℕ) → record_at b (suc r) ≡ behind_record b (record_at b r)
  unfolding record_at
  record_at-next r = refl

  -- a later record starts behind
  pub record_at-rise : (j r : ℕ) → j < r → record_at b j < record_at b r
  record_at-rise j r h =
      rises (record_at b) (suc r) (λ i l. omega (arith, record_at-next i)) j r h (omega arith)

  record_at-le : (j r : ℕ) → j ≤ r → record_at b j ≤ record_at b r
  record_at-le j r h =
      elim (dec_le r j) [
        | yes d ↦ (let e : j ≡ r = omega arith in omega (arith, ap (record_at b) e))
        | no d ↦ omega (arith, record_at-rise j r (omega arith))
      ]

  -- each takes 4 bytes at least
  pub record_at-low : (r : ℕ) → 4 * r ≤ record_at b r
  record_at-low zero = omega (arith, record_at-first)
  record_at-low (suc r) = omega (arith, record_at-next r, record_at-low r)

  -- ---- how many there are

  before-end : (r j : ℕ) → record_at b r ≤ length b → j < r → leb (length b) (record_at b j) ≡ false
  before-end r j inside h = lt-leb (length b) (record_at b j) (omega (arith, record_at-rise j r h))

  -- where one would start at the end
  pub record_count-end : (r : ℕ) → record_at b r ≡ length b → record_count b ≡ r
  unfolding record_count
  record_count-end r e =
      let few : r ≤ length b = omega (arith, record_at-low r) in
      elim (dec_le (length b) r) [
        | yes d ↦ (let q : length b ≡ r = omega arith in
            first_below-none _ (length b) (λ j h. before-end r j (omega arith) (omega arith)) ∙ q)
        | no d ↦ first_below-at _ (length b) r (omega arith) (λ j h. before-end r j (omega arith) h)
            (le-leb (length b) (record_at b r) (omega arith))
      ]

  -- the next would start at the end, or past it
  pub record_count-reaches : length b ≤ record_at b (record_count b)
  unfolding record_count
  record_count-reaches =
      let p : ℕ → Bool = λ r. leb (length b) (record_at b r) in
      let k : ℕ = first_below p (length b) in
      elim (dec_le (length b) k) [
        | yes d ↦ omega (arith, record_at-low k)
        | no d ↦ leb-true (length b) (record_at b k) (first_below-has p (length b) (omega arith))
      ]

  -- more than a record that starts before the end
  pub record_count-past : (r : ℕ) → record_at b r < length b → r < record_count b
  record_count-past r inside =
      elim (dec_le (record_count b) r) [
        | yes d ↦ absurd (omega (arith, record_at-le (record_count b) r d, record_count-reaches))
        | no d ↦ omega arith
      ]

  -- ---- the frames below a record

  unfoldable pub frames_to : ℕ → List (List ℕ)
  frames_to r = map (record_payload b) (positions (is_frame b) 0 r)

  pub length-frames_to : (r : ℕ) → length (frames_to r) ≡ frames_before b r
  unfolding frames_to frames_before
  length-frames_to r = length-map (positions (is_frame b) 0 r) (record_payload b)

  -- all of them
  pub frames-all : (r : ℕ) → record_count b ≡ r → frames b ≡ frames_to r
  unfolding frames frames_to
  frames-all r e = ap (λ (k : ℕ). map (record_payload b) (positions (is_frame b) 0 k)) e

  -- each is a part of b
  pub frames-bytes : Bytes b → (f : ℕ) → f < length (frames b) → Bytes (get_or (frames b) f [])
  unfolding frames record_payload
  frames-bytes bytes f h =
      let ps : List ℕ = positions (is_frame b) 0 (record_count b) in
      let r : ℕ = get_or ps f 0 in
      rw (get_or-map_inside (record_payload b) ps f 0 [] (omega (arith, length-map ps (record_payload b))))
      (bytes_take (record_len b r - 2) (drop (record_at b r + 6) b) (bytes_drop (record_at b r + 6) b bytes))

  pub frames_to-zero : frames_to 0 ≡ []
  unfolding frames_to positions
  frames_to-zero = refl

  below_next : (r : ℕ) → positions (is_frame b) 0 (suc r) ≡ positions (is_frame b) 0 r ++ keep_if (is_frame b r) r []
  unfolding positions
  below_next r =
      ap (positions (is_frame b) 0) (sym (add-one r))
      ∙ positions-append (is_frame b) 0 r 1
      ∙ ap (λ (j : ℕ). positions (is_frame b) 0 r ++ positions (is_frame b) j 1) (zero-add r)

  -- record r is one of them
  pub frames_to-frame : (r : ℕ) → is_frame b r ≡ true → frames_to (suc r) ≡ frames_to r ++ record_payload b r ∷ []
  unfolding frames_to
  frames_to-frame r e = rw (below_next r, e) (map-append (record_payload b) (positions (is_frame b) 0 r) (r ∷ []))

  -- or is not
  pub frames_to-other : (r : ℕ) → is_frame b r ≡ false → frames_to (suc r) ≡ frames_to r
  unfolding frames_to
  frames_to-other r e = rw (below_next r, e) (ap (map (record_payload b)) (append-nil (positions (is_frame b) 0 r)))

  -- how many they are
  pub frames_before-frame : (r : ℕ) → is_frame b r ≡ true → frames_before b (suc r) ≡ frames_before b r + 1
  frames_before-frame r e =
      sym (length-frames_to (suc r)) ∙ ap length (frames_to-frame r e)
      ∙ length-append (frames_to r) (record_payload b r ∷ [])
      ∙ ap (λ (k : ℕ). k + 1) (length-frames_to r)

  pub frames_before-other : (r : ℕ) → is_frame b r ≡ false → frames_before b (suc r) ≡ frames_before b r
  frames_before-other r e =
      sym (length-frames_to (suc r)) ∙ ap length (frames_to-other r e) ∙ length-frames_to r

-- ---- record 0

-- what one that is not at fault says
pub record Header (b : List ℕ) : Type 0 where
  pub kind : get 2 b 4 ≡ 0
  pub len : get 4 b 0 ≡ 8
  pub some : 1 ≤ frame_count b
  pub few : frame_count b ≤ 8

module _ (b : List ℕ) where
  pub header-right : bad_header b ≡ false → Header b
  unfolding bad_header record_kind record_len record_at
  header-right e =
      record {
        kind = grind (arith, nat_tests);
        len = grind (arith, nat_tests);
        some = grind (arith, nat_tests);
        few = grind (arith, nat_tests);
      }

  pub right-header : Header b → bad_header b ≡ false
  unfolding bad_header record_kind record_len record_at
  right-header h = grind (arith, nat_tests)

  -- where it ends, and what stands below record 1
  pub header-end : Header b → record_at b 1 ≡ 12
  unfolding record_at
  header-end h = omega (arith, h.len)

  no-frame : Header b → is_frame b 0 ≡ false
  unfolding record_kind record_at
  no-frame h = ne_eqb (get 2 b 4) 1 (λ e. omega (arith, h.kind))

  pub header-frames : Header b → frames_to b 1 ≡ []
  header-frames h = frames_to-other b 0 (no-frame h) ∙ frames_to-zero b

-- ---- a later record

-- what one that is not at fault says, which starts at `at` behind `found` frames of `count`
pub record Later (b : List ℕ) (at found count : ℕ) : Type 0 where
  pub inside : behind_record b at ≤ length b
  pub long : 2 ≤ get 4 b at
  pub kind : get 2 b (at + 4) ≡ 0 → ⊥
  pub room : get 2 b (at + 4) ≡ 1 → found < count

module _ (b : List ℕ) (at found count : ℕ) where
  pub wrong-right : wrong_record b at found count ≡ false → Later b at found count
  unfolding wrong_record
  wrong-right e =
      record {
        inside = grind (arith, nat_tests);
        long = grind (arith, nat_tests);
        kind = grind (arith, nat_tests);
        room = grind (arith, nat_tests);
      }

-- ---- any record

-- what one that is not at fault says
pub record Right (b : List ℕ) (r : ℕ) : Type 0 where
  pub inside : record_at b (suc r) ≤ length b
  pub long : 2 ≤ record_len b r
  pub kind : cond (eqb r 0) (bad_header b) (eqb (record_kind b r) 0) ≡ false
  pub room : is_frame b r ≡ true → frames_before b r < frame_count b

module _ (b : List ℕ) (r : ℕ) where
  pub bad_record-right : bad_record b r ≡ false → Right b r
  unfolding bad_record
  bad_record-right e =
      record {
        inside = grind (arith, nat_tests);
        long = grind (arith, nat_tests);
        kind = grind (arith, nat_tests);
        room = grind (arith, nat_tests);
      }

  pub right-bad_record : Right b r → bad_record b r ≡ false
  unfolding bad_record
  right-bad_record s = grind (arith, nat_tests)

-- ---- the outcomes

module _ (b : List ℕ) where
  pub bad_record-later : (r : ℕ) → 1 ≤ r
      → bad_record b r ≡ wrong_record b (record_at b r) (frames_before b r) (frame_count b)
  unfolding bad_record wrong_record record_len record_kind
  bad_record-later r later = rw (ne_eqb r 0 (λ e. omega arith), record_at-next b r)

  bad-first : bad_header b ≡ true → bad_record b 0 ≡ true
  unfolding bad_record
  bad-first e = rw (e, or-true (ltb (length b) (record_at b 1) || ltb (record_len b 0) 2))

  cut-first : length b < record_at b 1 → bad_record b 0 ≡ true
  unfolding bad_record
  cut-first h = rw (lt-ltb (length b) (record_at b 1) h)

  -- record 0 is not at fault
  pub bad_record-first : bad_header b ≡ false → 12 ≤ length b → bad_record b 0 ≡ false
  unfolding record_len record_at
  bad_record-first e long =
      let h = header-right b e in
      right-bad_record b 0
      (record {
        inside = omega (arith, header-end b h);
        long = omega (arith, h.len);
        kind = e;
        room = λ q. absurd (true-false (sym q ∙ no-frame b h));
      })

  pub first-right : bad_record b 0 ≡ false → Header b
  first-right e = header-right b (bad_record-right b 0 e).kind

  module _ (r : ℕ) (clear : (j : ℕ) → j < r → bad_record b j ≡ false) where
    -- record r is at fault, the least one
    pub records-refused : record_at b r < length b → bad_record b r ≡ true → records_outcome b ≡ refuse BadBundle 0 r
    unfolding records_outcome
    records-refused inside bad =
        let past : r < record_count b = record_count-past b r inside in
        refuse_first-some BadBundle 0 (bad_record b) (record_count b) r _
        (sym (first_below-at (bad_record b) (record_count b) r past clear bad)) past

    module _ (end : record_at b r ≡ length b) (some : 1 ≤ r) where
      none-bad : records_outcome b ≡ refuse_if (ltb (frames_before b r) (frame_count b)) (refuse BadBundle 0 r) (Ok (counts_in b))
      unfolding records_outcome
      none-bad =
          rw (record_count-end b r end)
          (refuse_first-none BadBundle 0 (bad_record b) r _ clear ∙ rw (ne_eqb r 0 (λ e. omega arith)))

      -- frames are missing
      pub records-missing : frames_before b r < frame_count b → records_outcome b ≡ refuse BadBundle 0 r
      records-missing few = none-bad ∙ rw (lt-ltb (frames_before b r) (frame_count b) few)

      pub records-done : frame_count b ≤ frames_before b r → records_outcome b ≡ Ok (counts_in b)
      records-done all = none-bad ∙ rw (le-ltb (frames_before b r) (frame_count b) all)

  -- no bytes at all
  none : length b ≡ 0 → records_outcome b ≡ refuse BadBundle 0 0
  unfolding records_outcome
  none e = rw (record_count-end b 0 (record_at-first b ∙ sym e))
      (refuse_first-none BadBundle 0 (bad_record b) 0 _ (λ j h. absurd (omega arith)))

  -- record 0 is at fault, or there is none
  pub records-header : ltb (length b) 12 || bad_header b ≡ true → records_outcome b ≡ refuse BadBundle 0 0
  records-header e =
      elim (dec_le (length b) 0) [
        | yes d ↦ none (omega arith)
        | no d ↦ records-refused 0 (λ j h. absurd (omega arith)) (omega (arith, record_at-first b)) (go (bad_header b) refl)
      ]
    where
      go : (t : Bool) → bad_header b ≡ t → bad_record b 0 ≡ true
      go true q = bad-first q
      go false q =
          elim (dec_le 12 (length b)) [
            | yes d ↦ absurd (true-false (sym (rw (le-ltb (length b) 12 d, q) at e)))
            | no d ↦ cut-first (omega (arith, header-end b (header-right b q)))
          ]

  -- ---- what a done outcome says

  -- no frame is one too many
  pub frames-few : (r : ℕ) → ((j : ℕ) → j < r → bad_record b j ≡ false) → frames_before b r ≤ frame_count b
  frames-few zero clear = omega (arith, length-frames_to b 0, ap length (frames_to-zero b))
  frames-few (suc r) clear = go (frames-few r (λ j h. clear j (omega arith))) (is_frame b r) refl
    where
      go : frames_before b r ≤ frame_count b → (t : Bool) → is_frame b r ≡ t → frames_before b (suc r) ≤ frame_count b
      go few true q = omega (arith, frames_before-frame b r q, (bad_record-right b r (clear r (omega arith))).room q)
      go few false q = omega (arith, frames_before-other b r q)

-- no record is at fault, and there are as many frames as record 0 says
pub record Accepted (b : List ℕ) : Type 0 where
  pub clear : (r : ℕ) → r < record_count b → bad_record b r ≡ false
  pub records : 0 < record_count b
  pub header : Header b
  pub counted : length (frames b) ≡ frame_count b

module _ (b : List ℕ) (c : BundleCounts) (accepted : records_outcome b ≡ Ok c) where
  -- no record is at fault, and neither records nor frames are missing
  passed : ((j : ℕ) → j < record_count b → bad_record b j ≡ false)
      × (eqb (record_count b) 0 || ltb (frames_before b (record_count b)) (frame_count b) ≡ false)
      × (◌≡◌ {A = Outcome BundleCounts} (Ok (counts_in b)) (Ok c))
  unfolding records_outcome
  passed =
      let p = refuse_first-done BadBundle 0 (bad_record b) (record_count b) _ c accepted in
      let q = refuse_if-done (eqb (record_count b) 0 || ltb (frames_before b (record_count b)) (frame_count b)) _ _ c p.1 in
      (p.0, q.0, q.1)

  -- the two counts
  pub done-counts : c ≡ counts_in b
  done-counts = let e = passed.2 in cc

  pub done-accepted : Accepted b
  done-accepted =
      let k : ℕ = record_count b in
      let full = or-false (eqb k 0) (ltb (frames_before b k) (frame_count b)) passed.1 in
      let records : 0 < k = omega (arith, eqb-false k 0 full.0) in
      record {
        clear = passed.0;
        records = records;
        header = first-right b (passed.0 0 records);
        counted = omega (
          arith,
          ap length (frames-all b k refl),
          length-frames_to b k,
          frames-few b k passed.0,
          ltb-false (frames_before b k) (frame_count b) full.1,
        );
      }
