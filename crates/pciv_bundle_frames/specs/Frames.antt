-- The frames of a bundle, each a PCIV file (docs/FORMAT.md, "Bundles"). fs are the bytes of each frame.
--   sound_frames f fs       the check of each frame, numbered from f on: refusals 1 to 8 with that number as map
--   other_slots n fs f      frame f, here from 0, has another number of slots than n
--   first_other n fs        the least such frame, or how many there are
--   frames_outcome n fs     refusals 1 to 8 of every frame, then 10, else n
--   next_other n f other have     the least of the frames up to f, here from 0, that has not n slots, if there is one,
--                          where `other` is that of those below f and frame f has `have` slots
--   next_frame n f other b  the check of frame f, whose bytes are b, then that frame
--   same_slots n other     refusal 10 where there is a frame that has not n slots, else n
--   CheckedFrames fs n     what inner routines know of the frames
--   row_of fs slot          the distance at a slot in each of eight frames, 0 for those that are absent
-- Laws are in proofs/FramesLaws.antt, FrameFileLaws.antt and RowLaws.antt. Axioms: none.
use Rattle.std.specs.Prelude.{Ok, Option, Some, None}
use Rattle.pciv_format.specs.declared.RefusalKind.TheVariants.{SizeMismatch}
use Rattle.std.specs.Prelude.{ℕ, suc, ◌+◌, ◌<◌, Bool, not, cond, List, [], ◌∷◌, length, get_or, ltb, eqb}
use Rattle.pciv_bytes.specs.Ranges.{first_below, table}
use Rattle.pciv_format.specs.Layout.{at}
use Rattle.pciv_format.specs.Refusals.{Outcome, refuse, refuse_if, and_then}
use Rattle.pciv_format.specs.Check.{n_field, k_field, counts_file, CheckedMap}
use Rattle.pciv_format.specs.Read.{list_of}

unfoldable pub sound_frames : ℕ → List (List ℕ) → Outcome ℕ
sound_frames f [] = Ok f
sound_frames f (b ∷ fs) = and_then (counts_file f b) (λ s. sound_frames (suc f) fs)

abbrev pub other_slots : ℕ → List (List ℕ) → ℕ → Bool
other_slots n fs f = not (eqb (n_field (get_or fs f [])) n)

abbrev pub first_other : ℕ → List (List ℕ) → ℕ
first_other n fs = first_below (other_slots n fs) (length fs)

-- the place of 10 is the number of a frame, and these are from 1
unfoldable pub frames_outcome : ℕ → List (List ℕ) → Outcome ℕ
frames_outcome n fs =
    and_then (sound_frames 1 fs)
    (λ s. refuse_if (ltb (first_other n fs) (length fs)) (refuse SizeMismatch 0 (first_other n fs + 1)) (Ok n))

-- ---- one frame after another

abbrev pub next_other : ℕ → ℕ → Option ℕ → ℕ → Option ℕ
next_other n f (Some g) have = Some g
next_other n f None have = cond (eqb have n) None (Some f)

abbrev pub next_frame : ℕ → ℕ → Option ℕ → List ℕ → Outcome (Option ℕ)
next_frame n f other b = and_then (counts_file (f + 1) b) (λ s. Ok (next_other n f other s.n))

abbrev pub same_slots : ℕ → Option ℕ → Outcome ℕ
same_slots n (Some f) = refuse SizeMismatch 0 (f + 1)
same_slots n None = Ok n

-- ---- what is read

abbrev pub CheckedFrames : List (List ℕ) → ℕ → Type 0
CheckedFrames fs n = (f : ℕ) → f < length fs → CheckedMap (get_or fs f []) n (k_field (get_or fs f []))

-- an absent frame has no bytes, and so no distance but 0
unfoldable pub row_of : List (List ℕ) → ℕ → List ℕ
row_of fs slot = table (λ (f : ℕ). at (list_of (get_or fs f [])) slot) 0 8
