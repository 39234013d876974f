-- Laws of the frames' outcome: frame by frame, and what it says of each where it is done.
--   Passed n fs f other      the frames below f are sound, and `other` is the least of them that has not n slots, if any
--   passed_none, -more, -below    before the first frame, and past a sound one; `other` is among them
--   passed-refused           at a frame that is refused, so is the outcome
--   frames-end               past the last frame: refusal 10, or n
--   frames-value, -checked, -length    where it is done: it is n, and each frame is a whole file with n slots
--   frames_small             n, and the length of each frame as a record, fits in 4 bytes
--   frame-checked            a frame of checked frames is a checked map
--   frames_outcome-any        where the first frame has no whole header, the outcome is the same for every n
-- Axioms: none.
use Rattle.std.proofs.Common.{Ok, Err, Option, Some, None}
use Rattle.std.specs.Option.{IfSome, unwrap_or}
use Rattle.std.proofs.lemmas.Option.{IfSome_then}
use Rattle.pciv_format.specs.declared.RefusalKind.TheVariants.{TruncatedHeader, SizeMismatch}
use mathlib.Core.Path.{◌≡◌, refl, sym, subst, ap, ◌∙◌}
use Prim.Native.Nat.{ℕ, zero, suc, ◌+◌, ◌≤◌, ◌<◌, ◌^◌}
use native.Mathlib.Nat.{add-zero}
use native.Mathlib.Numerals.{add-one}
use native.Mathlib.Omega.{arith}
use mathlib.Core.Bool.{Bool, true, false, not, cond}
use mathlib.Core.List.{List, [], ◌∷◌}
use lib.ListN.{length, get_or, drop, drop_of_length-le}
use lib.Seq.{drop-cons}
use lib.Dec.{ltb, eqb}
use borrow.Author.Tests.{lt-ltb, le-ltb, eq-eqb, ne_eqb, ltb-false}
use Rattle.pciv_bytes.specs.Ranges.{first_below}
use Rattle.pciv_bytes.proofs.RangesLaws.{first_below-none, first_below-all, first_below-more}
use Rattle.pciv_format.specs.Layout.{file_len, counts_of}
use Rattle.pciv_format.specs.Refusals.{Outcome, refuse, refuse_if, and_then}
use Rattle.pciv_format.specs.Check.{n_field, k_field, counts_file, check_header, check_with, other_length, CheckedMap}
use Rattle.pciv_format.specs.declared.Counts.{Counts}
use Rattle.pciv_format.specs.declared.Refusal.{Refusal}
use Rattle.pciv_format.proofs.PartsLaws.{not_eqb}
use Rattle.pciv_format.proofs.RefusalsLaws.{refuse_if-done, and_then-done, and_then-refused}
use Rattle.pciv_format.proofs.LayoutLaws.{file_len-is, index_len-le, index_step-le}
use Rattle.pciv_format.proofs.CheckLaws.{Accepted, done-counts_file, accepted-length}
use Rattle.pciv_bundle_frames.specs.Frames.{sound_frames, other_slots, first_other, frames_outcome}
use Rattle.pciv_bundle_frames.specs.Frames.{next_other, next_frame, same_slots, CheckedFrames}

-- ---- one frame after another

pub record Passed (n : ℕ) (fs : List (List ℕ)) (f : ℕ) (other : Option ℕ) : Type 0 where
  pub inside : f ≤ length fs
  pub rest : sound_frames 1 fs ≡ sound_frames (f + 1) (drop f fs)
  pub least : unwrap_or other f ≡ first_below (other_slots n fs) f
  pub below : IfSome other (λ g. g < f)

pub passed_none : (n : ℕ) (fs : List (List ℕ)) → Passed n fs 0 None
passed_none n fs =
    record {
      inside = omega arith;
      rest = refl;
      least = sym (first_below-none (other_slots n fs) 0 (λ j h. absurd (omega arith)));
      below = tt;
    }

-- the counts of a sound frame have its slots
slots-are : (mp : ℕ) (b : List ℕ) (s : Counts) → counts_file mp b ≡ Ok s → s.n ≡ n_field b
unfolding counts_of
slots-are mp b s e = ap (λ (z : Counts). z.n) (done-counts_file mp b s e).counts

-- the least of the frames up to f, from that of those below
next-some : (p : ℕ → Bool) (f n have : ℕ) (other : Option ℕ) → p f ≡ not (eqb have n)
    → unwrap_or other f ≡ first_below p f → IfSome other (λ g. g < f)
    → (unwrap_or (next_other n f other have) (f + 1) ≡ first_below p (f + 1))
    × IfSome (next_other n f other have) (λ g. g < f + 1)
next-some p f n have (Some g) e least below =
    let more = first_below-more p f (eqb have n) e in
    (rw (← least, ne_eqb g f (λ q. omega arith)) at more, omega arith)
next-some p f n have None e least below =
    let more = first_below-more p f (eqb have n) e in
    go (eqb have n) (first_below p (f + 1)) (rw (← least, eq-eqb f f refl) at more)
  where
    go : (t : Bool) (y : ℕ) → cond t (f + 1) f ≡ y
        → (unwrap_or (cond t None (Some f)) (f + 1) ≡ y) × IfSome (cond t None (Some f)) (λ g. g < f + 1)
    go true y e = (e, tt)
    go false y e = (e, omega arith)

-- and then what is left to refuse
rest-refused : (n f : ℕ) (other : Option ℕ) → IfSome other (λ g. g < f)
    → refuse_if (ltb (unwrap_or other f) f) (refuse SizeMismatch 0 (unwrap_or other f + 1)) (Ok n) ≡ same_slots n other
rest-refused n f (Some g) below = rw (lt-ltb g f below)
rest-refused n f None below = rw (le-ltb f f (omega arith))

module _ {n : ℕ} {fs : List (List ℕ)} {f : ℕ} {other : Option ℕ} (e : Passed n fs f other) where
  module _ (more : f < length fs) where
    step : sound_frames 1 fs
        ≡ and_then (counts_file (f + 1) (get_or fs f [])) (λ s. sound_frames (f + 1 + 1) (drop (f + 1) fs))
    unfolding sound_frames
    step = e.rest ∙ rw (drop-cons fs f [], add-one (f + 1), add-one f)

    -- what the check of frame f says
    pub passed-refused : (r : Refusal) → next_frame n f other (get_or fs f []) ≡ Err r → frames_outcome n fs ≡ Err r
    unfolding frames_outcome
    passed-refused r q =
        rw (step, and_then-refused (counts_file (f + 1) (get_or fs f [])) (λ s. next_other n f other s.n) r q)

    pub passed-more : (least : Option ℕ) → next_frame n f other (get_or fs f []) ≡ Ok least → Passed n fs (f + 1) least
    passed-more least q =
        let h = and_then-done (counts_file (f + 1) (get_or fs f [])) (λ s. Ok (next_other n f other s.n)) least q in
        let next : next_other n f other h.0.n ≡ least = cc h.2 in
        let some = next-some (other_slots n fs) f n h.0.n other (rw (slots-are (f + 1) (get_or fs f []) h.0 h.1)) e.least e.below in
        record {
          inside = omega arith;
          rest = step ∙ rw h.1;
          least = rw (← next) some.0;
          below = rw (← next) some.1;
        }

  pub frames-end : length fs ≤ f → frames_outcome n fs ≡ same_slots n other
  unfolding frames_outcome sound_frames
  frames-end h =
      let all : f ≡ length fs = omega (arith, e.inside) in
      rw (e.rest, drop_of_length-le fs {i = f} (omega arith), ← all, ← e.least) (rest-refused n f other e.below)

  pub passed-below : length fs ≤ 8 → IfSome other (λ g. g < 8)
  passed-below few = IfSome_then other e.below (λ g h. omega (arith, e.inside))

-- ---- where it is done

sound-each : (fs : List (List ℕ)) (f m : ℕ) → sound_frames f fs ≡ Ok m → (j : ℕ) → j < length fs
    → (s : Counts) × (counts_file (f + j) (get_or fs j []) ≡ Ok s)
unfolding sound_frames
sound-each [] f m e j h = absurd (omega arith)
sound-each (b ∷ fs) f m e zero h = let d = and_then-done (counts_file f b) _ m e in (d.0, rw (add-zero f) d.1)
sound-each (b ∷ fs) f m e (suc j) h =
    let d = and_then-done (counts_file f b) _ m e in
    let r = sound-each fs (suc f) m d.2 j (omega arith) in
    let same : f + suc j ≡ suc f + j = omega arith in
    (r.0, rw same r.1)

module _ (n : ℕ) (fs : List (List ℕ)) (m : ℕ) (e : frames_outcome n fs ≡ Ok m) where
  passed : (s : ℕ) × (sound_frames 1 fs ≡ Ok s) × (ltb (first_other n fs) (length fs) ≡ false) × (◌≡◌ {A = Outcome ℕ} (Ok n) (Ok m))
  unfolding frames_outcome
  passed =
      let d = and_then-done (sound_frames 1 fs) _ m e in
      let g = refuse_if-done (ltb (first_other n fs) (length fs)) _ _ m d.2 in
      (d.0, d.1, g.0, g.1)

  pub frames-value : m ≡ n
  frames-value = cc passed.3

  -- a frame at the counts in its header, of which n is the number of slots
  accepted : (f : ℕ) → f < length fs
      → (let b = get_or fs f [] in (s : Counts) × Accepted other_length b (n_field b) (k_field b) s)
  accepted f h =
      let each = sound-each fs 1 passed.0 passed.1 f h in
      (each.0, done-counts_file (1 + f) (get_or fs f []) each.0 each.1)

  slots : (f : ℕ) → f < length fs → n_field (get_or fs f []) ≡ n
  slots f h = not_eqb _ _ (first_below-all (other_slots n fs) (length fs) f (ltb-false _ _ passed.2) h)

  pub frames-checked : CheckedFrames fs n
  frames-checked f h = rw (slots f h) at (accepted f h).1.checked

  pub frames-length : (f : ℕ) → f < length fs → length (get_or fs f []) ≡ file_len n (k_field (get_or fs f []))
  frames-length f h = let a = accepted f h in rw (slots f h) at (accepted-length _ _ _ a.0 a.1)

  -- a file of the most slots is shorter than that
  pub frames_small : (f : ℕ) → f < length fs → (n < 2 ^ 32) × (2 + length (get_or fs f []) < 2 ^ 32)
  frames_small f h =
      let k : ℕ = k_field (get_or fs f []) in
      let m = (frames-checked f h).header in (
        omega (arith, m.small),
        omega (arith, m.small, m.few, frames-length f h, file_len-is n k, index_len-le k, index_step-le k),
      )

-- frame f, whose bytes are b
pub frame-checked : (fs : List (List ℕ)) (n : ℕ) → CheckedFrames fs n → (f : ℕ) → f < length fs
    → (b : List ℕ) → b ≡ get_or fs f [] → CheckedMap b n (k_field b)
frame-checked fs n checked f h b is = subst (λ (x : List ℕ). CheckedMap x n (k_field x)) (sym is) (checked f h)

-- ---- the first frame has no whole header

check-short : (b : List ℕ) → length b < 40 → counts_file 1 b ≡ refuse TruncatedHeader 1 0
unfolding check_with check_header
check-short b short = rw (lt-ltb (length b) 40 short)

frames-short : (n : ℕ) (fs : List (List ℕ)) → 0 < length fs → length (get_or fs 0 []) < 40
    → frames_outcome n fs ≡ refuse TruncatedHeader 1 0
unfolding frames_outcome sound_frames
frames-short n [] some short = absurd (omega arith)
frames-short n (b ∷ fs) some short = rw (check-short b short)

pub frames_outcome-any : (n m : ℕ) (fs : List (List ℕ)) → 0 < length fs → length (get_or fs 0 []) < 40
    → frames_outcome n fs ≡ frames_outcome m fs
frames_outcome-any n m fs some short = frames-short n fs some short ∙ sym (frames-short m fs some short)
