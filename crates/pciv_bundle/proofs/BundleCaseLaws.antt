-- What each routine on bundles answers, case by case.
--   counted-frames                     sound records have up to eight frames, as many as they say
--   bundle-records, bundle-frames, bundle-done    a bundle's records are refused, its frames are, or it is accepted
--   row-refused, nearest-refused       the bundle is refused, and so is the call
--   records-accepted, frames-accepted  an accepted bundle has sound records, and its frames are
--   accepted-frames, bundle-checked    it has as many frames as it says, and each is a checked map with its slots
--   row-outside, row_inside            refusal 9, or the distances at a slot
--   nearest-short, nearest-done, nearest-buffer    refusal 12, or how many distances, and what is written
--   write-none, write-many             writing: refusal 14
--   write-slots                        the n that the frames are checked against, from what is read of the first one
--   write-refused                      a frame is refused, or has other slots
--   write-n, write-frames              frames that are accepted: n, and the length of each, fits in 4 bytes
--   write-short, write_done, write-buffer    refusal 12, or how many bytes, and what is written
-- Axioms: none.
use Rattle.std.proofs.Common.{Ok, Err}
use Rattle.pciv_format.specs.declared.RefusalKind.TheVariants.{SlotOutOfRange, BufferTooSmall, BadBundle}
use mathlib.Core.Path.{◌≡◌, sym, ap, ◌∙◌}
use Prim.Native.Nat.{ℕ, ◌≤◌, ◌<◌, ◌^◌}
use native.Mathlib.Omega.{arith}
use native.Mathlib.Decide.{dec_le}
use mathlib.Core.List.{List, []}
use lib.ListN.{length, get_or, take}
use lib.Seq.{sets, get_or-take}
use borrow.Author.Tests.{le-leb, lt-leb, lt-ltb, le-ltb}
use Rattle.pciv_bytes.proofs.WriteLaws.{sets-front}
use Rattle.pciv_format.specs.Refusals.{refuse, and_then}
use Rattle.pciv_format.specs.Check.{n_field}
use Rattle.pciv_format.specs.declared.Refusal.{Refusal}
use Rattle.pciv_format.proofs.RefusalsLaws.{and_then-done}
use Rattle.pciv_format.specs.Read.{items_into}
use Rattle.pciv_format.proofs.ReadLaws.{items-fit, items-short}
use Rattle.pciv_bundle_records.specs.Records.{frames, slot_count, records_outcome, bundle_of}
use Rattle.pciv_bundle_records.specs.declared.BundleCounts.{BundleCounts}
use Rattle.pciv_bundle_records.proofs.RecordsLaws.{done-counts, done-accepted}
use Rattle.pciv_bundle_frames.specs.Frames.{frames_outcome, CheckedFrames, row_of}
use Rattle.pciv_bundle_frames.proofs.FramesLaws.{frames-value, frames-checked, frames_small, frames_outcome-any}
use Rattle.pciv_bundle_nearest.specs.Nearest.{nearest_list}
use Rattle.pciv_bundle_nearest.proofs.NearestLaws.{length-nearest_list}
use Rattle.pciv_bundle.specs.Bundle.{bundle_outcome, row_outcome, nearest_outcome, nearest_buffer}
use Rattle.pciv_bundle.specs.Bundle.{used_slots, ShortFrames, bundle_write_outcome, bundle_write_buffer}

-- ---- the check of a bundle

module _ (b : List ℕ) where
  pub bundle-records : (r : Refusal) → records_outcome b ≡ Err r → bundle_outcome b ≡ Err r
  unfolding bundle_outcome
  bundle-records r e = rw e

  module _ (c : BundleCounts) (e : records_outcome b ≡ Ok c) where
    pub counted-frames : (c.frames ≤ 8) × (c.frames ≡ length (frames b))
    counted-frames =
        let a = done-accepted b c e in
        rw (done-counts b c e) (a.header.few, sym a.counted)

    pub bundle-frames : (r : Refusal) → frames_outcome c.slots (frames b) ≡ Err r → bundle_outcome b ≡ Err r
    unfolding bundle_outcome
    bundle-frames r g = rw (e, g)

    pub bundle-done : (n : ℕ) → frames_outcome c.slots (frames b) ≡ Ok n → bundle_outcome b ≡ Ok c
    unfolding bundle_outcome
    bundle-done n g = rw (e, g)

-- ---- the bundle is refused

module _ (b : List ℕ) (r : Refusal) (e : bundle_outcome b ≡ Err r) where
  pub row-refused : (slot : ℕ) → row_outcome b slot ≡ Err r
  unfolding row_outcome
  row-refused slot = rw e

  pub nearest-refused : (capacity : ℕ) → nearest_outcome b capacity ≡ Err r
  unfolding nearest_outcome
  nearest-refused capacity = rw e

-- ---- the bundle is accepted

module _ (b : List ℕ) (c : BundleCounts) (e : bundle_outcome b ≡ Ok c) where
  parts : (n : ℕ) × (records_outcome b ≡ Ok c) × (frames_outcome c.slots (frames b) ≡ Ok n)
  unfolding bundle_outcome
  parts =
      let d = and_then-done (records_outcome b) _ c e in
      let g = and_then-done (frames_outcome d.0.slots (frames b)) _ c d.2 in
      let last : Ok d.0 ≡ Ok c = g.2 in
      let same : d.0 ≡ c = cc in
      (g.0, d.1 ∙ last, ap (λ (x : BundleCounts). frames_outcome x.slots (frames b)) (sym same) ∙ g.1)

  pub records-accepted : records_outcome b ≡ Ok c
  records-accepted = parts.1

  pub frames-accepted : (n : ℕ) × (frames_outcome c.slots (frames b) ≡ Ok n)
  frames-accepted = (parts.0, parts.2)

  pub accepted-frames : (c.frames ≤ 8) × (c.frames ≡ length (frames b))
  accepted-frames = counted-frames b c records-accepted

  pub bundle-checked : CheckedFrames (frames b) c.slots
  bundle-checked = frames-checked c.slots (frames b) _ frames-accepted.1

  -- one slot
  pub row-outside : (slot : ℕ) → c.slots ≤ slot → row_outcome b slot ≡ refuse SlotOutOfRange 0 0
  unfolding row_outcome
  row-outside slot h = rw (e, le-leb c.slots slot h)

  pub row_inside : (slot : ℕ) → slot < c.slots → row_outcome b slot ≡ Ok (row_of (frames b) slot)
  unfolding row_outcome
  row_inside slot h = rw (e, lt-leb c.slots slot h)

  -- every slot
  pub nearest-short : (capacity : ℕ) → capacity < c.slots → nearest_outcome b capacity ≡ refuse BufferTooSmall 0 0
  unfolding nearest_outcome
  nearest-short capacity h = rw e (items-short c.slots capacity h)

  pub nearest-done : (capacity : ℕ) → c.slots ≤ capacity → nearest_outcome b capacity ≡ Ok c.slots
  unfolding nearest_outcome
  nearest-done capacity h = rw e (items-fit c.slots capacity h)

  pub nearest-buffer : (out : List ℕ) → c.slots ≤ length out
      → sets out 0 (nearest_list (frames b) c.slots) ≡ nearest_buffer b out
  unfolding nearest_buffer
  nearest-buffer out h =
      let slots : slot_count b ≡ c.slots = ap (λ (x : BundleCounts). x.slots) (sym (done-counts b c records-accepted)) in
      rw (nearest-done (length out) h, slots)
      (sets-front (nearest_list (frames b) c.slots) out (rw length-nearest_list h))

-- ---- writing

module _ (fs : List (List ℕ)) (count : ℕ) where
  pub write-none : (capacity : ℕ) → count < 1 → bundle_write_outcome fs count capacity ≡ refuse BadBundle 0 0
  unfolding bundle_write_outcome
  write-none capacity h = rw (lt-ltb count 1 h)

  pub write-many : (capacity : ℕ) → 8 < count → bundle_write_outcome fs count capacity ≡ refuse BadBundle 0 0
  unfolding bundle_write_outcome
  write-many capacity h = rw (le-ltb count 1 (omega arith), lt-ltb 8 count h)

  module _ (some : 1 ≤ count) (few : count ≤ 8) where
    -- a first frame without a whole header is refused, whatever its n is taken for
    pub write-slots : (n : ℕ) → length (take count fs) ≡ count
        → (let first = get_or fs 0 [] in
        (40 ≤ length first → n ≡ n_field first)
        → frames_outcome n (take count fs) ≡ frames_outcome (used_slots fs) (take count fs))
    write-slots n all is =
        let first : get_or (take count fs) 0 [] ≡ get_or fs 0 [] = get_or-take count fs 0 [] some in
        elim (dec_le 40 (length (get_or fs 0 []))) [
          | yes long ↦ ap (λ (m : ℕ). frames_outcome m (take count fs)) (is long)
          | no short ↦ frames_outcome-any n (used_slots fs) (take count fs) (rw all some) (omega (arith, ap length first))
        ]

    -- what is left to refuse
    past-count : (capacity : ℕ) → bundle_write_outcome fs count capacity
        ≡ and_then (frames_outcome (used_slots fs) (take count fs))
        (λ n. items_into (length (bundle_of n (take count fs))) capacity)
    unfolding bundle_write_outcome
    past-count capacity = rw (le-ltb count 1 some, le-ltb 8 count few)

    pub write-refused : (capacity : ℕ) (r : Refusal) → frames_outcome (used_slots fs) (take count fs) ≡ Err r
        → bundle_write_outcome fs count capacity ≡ Err r
    write-refused capacity r e = past-count capacity ∙ rw e

    module _ (n : ℕ) (e : frames_outcome (used_slots fs) (take count fs) ≡ Ok n) where
      pub write-n : length (take count fs) ≡ count → n < 2 ^ 32
      write-n all = rw (← frames-value _ _ n e) at (frames_small _ _ n e 0 (rw all some)).0

      pub write-frames : ShortFrames (take count fs)
      write-frames f h = (frames_small _ _ n e f h).1

      pub write-short : (capacity : ℕ) → capacity < length (bundle_of n (take count fs))
          → bundle_write_outcome fs count capacity ≡ refuse BufferTooSmall 0 0
      write-short capacity h =
          past-count capacity ∙ rw e (items-short (length (bundle_of n (take count fs))) capacity h)

      pub write_done : (capacity : ℕ) → length (bundle_of n (take count fs)) ≤ capacity
          → bundle_write_outcome fs count capacity ≡ Ok (length (bundle_of n (take count fs)))
      write_done capacity h =
          past-count capacity ∙ rw e (items-fit (length (bundle_of n (take count fs))) capacity h)

      pub write-buffer : (out : List ℕ) → length (bundle_of n (take count fs)) ≤ length out
          → sets out 0 (bundle_of n (take count fs)) ≡ bundle_write_buffer fs count out
      unfolding bundle_write_buffer
      write-buffer out h =
          rw (write_done (length out) h, ← frames-value _ _ n e) (sets-front (bundle_of n (take count fs)) out h)
