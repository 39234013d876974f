-- Laws of the walk over the records of a bundle.
--   place_at start end         a place
--   Splitting b places found number at    the walk: record `number` would start at `at`, no record before it is at
--                             fault, `found` of them are frames, and each has its place
--   splitting-start           behind record 0
--   splitting-header          what record 0 says
--   splitting-refused         the next record is at fault
--   splitting-other, -frame   past a record that is no frame, and past a frame
--   splitting-missing, -done, -placed    at the end: frames are missing, or all are there, in their places
-- Axioms: none.
use Rattle.std.proofs.Common.{Ok}
use Rattle.pciv_format.specs.declared.RefusalKind.TheVariants.{BadBundle}
use mathlib.Core.Path.{◌≡◌, sym, ap, ◌∙◌}
use Prim.Native.Nat.{ℕ, suc, ◌+◌, ◌-◌, ◌≤◌, ◌<◌}
use native.Mathlib.Omega.{arith}
use native.Mathlib.Decide.{dec_le}
use native.Mathlib.Numerals.{add-one}
use mathlib.Core.Bool.{true, false}
use mathlib.Core.List.{List, [], ◌∷◌}
use lib.ListN.{length, set, take, drop, length-set, get_or-append}
use lib.Seq.{get_or-set_same, get_or-set_other, get_or_at}
use lib.Dec.{eqb}
use borrow.Author.Tests.{eq-eqb, ne_eqb}
use Rattle.pciv_bytes.specs.LittleEndian.{get}
use Rattle.pciv_format.specs.Refusals.{refuse}
use Rattle.pciv_bundle_records.specs.Records.{behind_record, record_at, record_len, record_kind, record_payload}
use Rattle.pciv_bundle_records.specs.Records.{frame_count, is_frame, frames_before, bad_header, bad_record}
use Rattle.pciv_bundle_records.specs.Records.{wrong_record, counts_in, records_outcome}
use Rattle.pciv_bundle_records.specs.Records.{no_place, PlacedFrame, PlacedFrames}
use Rattle.pciv_bundle_records.specs.declared.Span.{Span}
use Rattle.pciv_bundle_records.proofs.RecordsLaws.{record_at-next, record_count-end}
use Rattle.pciv_bundle_records.proofs.RecordsLaws.{frames_to, length-frames_to, frames-all, frames_to-frame, frames_to-other}
use Rattle.pciv_bundle_records.proofs.RecordsLaws.{frames_before-frame, frames_before-other, Header, header-right}
use Rattle.pciv_bundle_records.proofs.RecordsLaws.{header-end, header-frames, Later, wrong-right}
use Rattle.pciv_bundle_records.proofs.RecordsLaws.{bad_record-first, first-right, bad_record-later}
use Rattle.pciv_bundle_records.proofs.RecordsLaws.{records-refused, records-missing, records-done}

abbrev pub place_at : ℕ → ℕ → Span
place_at start end = record { start = start; end = end }

pub record Splitting (b : List ℕ) (places : List Span) (found number at : ℕ) : Type 0 where
  pub eight : length places ≡ 8
  pub past : 1 ≤ number
  pub here : at ≡ record_at b number
  pub inside : at ≤ length b
  pub counted : found ≡ frames_before b number
  pub clear : (j : ℕ) → j < number → bad_record b j ≡ false
  pub placed : (f : ℕ) → f < found → PlacedFrame b places (frames_to b number) f

-- behind record 0
pub splitting-start : (b : List ℕ) (places : List Span) → length places ≡ 8 → 12 ≤ length b
    → bad_header b ≡ false → Splitting b places 0 1 12
splitting-start b places eight long right =
    let h = header-right b right in
    record {
      eight = eight;
      past = omega arith;
      here = sym (header-end b h);
      inside = long;
      counted = sym (ap length (header-frames b h)) ∙ length-frames_to b 1;
      clear = λ j l. (let e : j ≡ 0 = omega arith in rw e (bad_record-first b right long));
      placed = λ f l. absurd (omega arith);
    }

module _ {b : List ℕ} {places : List Span} {found number at : ℕ} (s : Splitting b places found number at) where
  -- what record 0 says
  pub splitting-header : Header b
  splitting-header = first-right b (s.clear 0 s.past)

  bad-here : bad_record b number ≡ wrong_record b at found (frame_count b)
  bad-here = rw (s.here, s.counted) (bad_record-later b number s.past)

  -- the next record is at fault
  pub splitting-refused : at < length b → wrong_record b at found (frame_count b) ≡ true
      → records_outcome b ≡ refuse BadBundle 0 number
  splitting-refused more wrong =
      records-refused b number s.clear (omega (arith, s.here)) (bad-here ∙ wrong)

  -- the next record is not at fault, and ends at `next`
  module _ (right : wrong_record b at found (frame_count b) ≡ false) (next : ℕ) (there : next ≡ behind_record b at) where
    next-says : Later b at found (frame_count b)
    next-says = wrong-right b at found (frame_count b) right

    next-at : next ≡ record_at b (suc number)
    next-at = there ∙ ap (behind_record b) s.here ∙ sym (record_at-next b number)

    next-clear : (j : ℕ) → j < suc number → bad_record b j ≡ false
    next-clear j h =
        elim (dec_le number j) [
          | yes d ↦ (let e : j ≡ number = omega arith in rw e (bad-here ∙ right))
          | no d ↦ s.clear j (omega arith)
        ]

    next-frame : is_frame b number ≡ eqb (get 2 b (at + 4)) 1
    unfolding record_kind
    next-frame = rw s.here

    next-payload : take (next - (at + 6)) (drop (at + 6) b) ≡ record_payload b number
    unfolding record_payload record_len
    next-payload = let e : next - (at + 6) ≡ get 4 b at - 2 = omega arith in rw (e, s.here)

    -- past a record that is no frame
    pub splitting-other : (get 2 b (at + 4) ≡ 1 → ⊥) → Splitting b places found (number + 1) next
    splitting-other other =
        let q : is_frame b number ≡ false = next-frame ∙ ne_eqb (get 2 b (at + 4)) 1 other in
        rw (add-one number)
        (record {
          eight = s.eight;
          past = omega arith;
          here = next-at;
          inside = omega (arith, next-says.inside);
          counted = s.counted ∙ sym (frames_before-other b number q);
          clear = next-clear;
          placed = λ f h. rw (frames_to-other b number q) (s.placed f h);
        })

    -- past a frame
    module _ (room : found < 8) where
      frame-placed : is_frame b number ≡ true → (f : ℕ) → f < found + 1
          → PlacedFrame b (set places found (place_at (at + 6) next)) (frames_to b (suc number)) f
      frame-placed q f h =
          elim (dec_le found f) [
            | yes d ↦ (let e : f ≡ found = omega arith in
                let here = get_or-set_same places found (place_at (at + 6) next) no_place (omega (arith, s.eight)) in
                rw (e, here, frames_to-frame b number q)
                (record {
                  rising = omega (arith, next-says.long);
                  inside = omega (arith, next-says.inside);
                  bytes = next-payload
                      ∙ sym (get_or_at (frames_to b number) (record_payload b number) [] [] found
                      (length-frames_to b number ∙ sym s.counted));
                }))
            | no d ↦ (let p = s.placed f (omega arith) in
                let there = get_or-set_other places found f (place_at (at + 6) next) no_place (λ e. omega arith) in
                rw (there, frames_to-frame b number q)
                (record {
                  rising = p.rising;
                  inside = p.inside;
                  bytes = p.bytes
                      ∙ sym (get_or-append (frames_to b number) (record_payload b number ∷ []) [] f
                      (omega (arith, length-frames_to b number, s.counted)));
                }))
          ]

      pub splitting-frame : get 2 b (at + 4) ≡ 1
          → Splitting b (set places found (place_at (at + 6) next)) (found + 1) (number + 1) next
      splitting-frame kind =
          let q : is_frame b number ≡ true = next-frame ∙ eq-eqb (get 2 b (at + 4)) 1 kind in
          rw (add-one number)
          (record {
            eight = length-set places found (place_at (at + 6) next) ∙ s.eight;
            past = omega arith;
            here = next-at;
            inside = omega (arith, next-says.inside);
            counted = omega (arith, s.counted, frames_before-frame b number q);
            clear = next-clear;
            placed = frame-placed q;
          })

  -- the end
  module _ (no_more : length b ≤ at) where
    at-end : record_at b number ≡ length b
    at-end = omega (arith, s.here, s.inside)

    pub splitting-missing : found < frame_count b → records_outcome b ≡ refuse BadBundle 0 number
    splitting-missing few = records-missing b number s.clear at-end s.past (omega (arith, s.counted))

    pub splitting-done : frame_count b ≤ found → records_outcome b ≡ Ok (counts_in b)
    splitting-done all = records-done b number s.clear at-end s.past (omega (arith, s.counted))

    pub splitting-placed : PlacedFrames b places
    splitting-placed f h =
        let e = frames-all b number (record_count-end b number at-end) in
        rw e (s.placed f (omega (arith, s.counted, length-frames_to b number, ap length e)))
