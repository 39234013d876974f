-- Laws of frames that are files of lists.
--   FrameFile n f    f is the file of the list that it is read as, of n slots and within the limits
--   file-frame       so is the file of every such list
--   done-file        where the frames' outcome is done, each frame that is bytes is such a file
--   files-done       and it is done where each frame is
-- Axioms: none.
use Rattle.std.proofs.Common.{Ok}
use mathlib.Core.Path.{◌≡◌, sym, ap, subst, ◌∙◌}
use Prim.Native.Nat.{ℕ, suc, ◌+◌, ◌<◌}
use native.Mathlib.Omega.{arith}
use mathlib.Core.List.{List, [], ◌∷◌}
use lib.ListN.{length, get_or}
use borrow.Author.Tests.{le-ltb}
use Rattle.pciv_bytes.specs.LittleEndian.{Bytes}
use Rattle.pciv_bytes.proofs.RangesLaws.{first_below-none}
use Rattle.pciv_format.specs.Layout.{counts_of, file_of, Limits}
use Rattle.pciv_format.specs.Check.{k_field, counts_file}
use Rattle.pciv_format.specs.Read.{list_of}
use Rattle.pciv_format.proofs.PartsLaws.{eqb-not}
use Rattle.pciv_format.proofs.CheckLaws.{counts_file-done}
use Rattle.pciv_format.proofs.ReadLaws.{length-list_of}
use Rattle.pciv_format.proofs.Acceptance.{file-counted, file-read, counted-is-file}
use Rattle.pciv_bundle_frames.specs.Frames.{sound_frames, other_slots, frames_outcome}
use Rattle.pciv_bundle_frames.proofs.FramesLaws.{frames-checked, frames-length}

pub record FrameFile (n : ℕ) (f : List ℕ) : Type 0 where
  pub limits : Limits (list_of f)
  pub slots : length (list_of f) ≡ n
  pub bytes : f ≡ file_of (list_of f)

pub file-frame : (xs : List ℕ) → Limits xs → FrameFile (length xs) (file_of xs)
file-frame xs l =
    let e : list_of (file_of xs) ≡ xs = file-read xs l in
    record { limits = subst Limits (sym e) l; slots = ap length e; bytes = ap file_of (sym e) }

-- every frame of an outcome that is done
pub done-file : (n m : ℕ) (fs : List (List ℕ)) → frames_outcome n fs ≡ Ok m → (f : ℕ) → f < length fs
    → Bytes (get_or fs f []) → FrameFile n (get_or fs f [])
done-file n m fs e f h bytes =
    let b : List ℕ = get_or fs f [] in
    let k : ℕ = k_field b in
    let c = frames-checked n fs m e f h in
    let is = counted-is-file 1 b (counts_of n k) bytes (counts_file-done 1 b n k c (frames-length n fs m e f h)) in
    record { limits = is.limits; slots = length-list_of b ∙ c.header.n_is; bytes = is.bytes }

-- and an outcome is done where every frame is a file
files-sound : (n f : ℕ) (fs : List (List ℕ)) → ((i : ℕ) → i < length fs → FrameFile n (get_or fs i []))
    → sound_frames f fs ≡ Ok (f + length fs)
unfolding sound_frames
files-sound n f [] each = ap Ok (omega arith)
files-sound n f (b ∷ fs) each =
    let a = each 0 (omega arith) in
    rw (ap (counts_file f) a.bytes ∙ file-counted f (list_of b) a.limits)
    (files-sound n (suc f) fs (λ i h. each (suc i) (omega arith)) ∙ ap Ok (omega arith))

pub files-done : (n : ℕ) (fs : List (List ℕ)) → ((i : ℕ) → i < length fs → FrameFile n (get_or fs i []))
    → frames_outcome n fs ≡ Ok n
unfolding frames_outcome
files-done n fs each =
    rw (
      files-sound n 1 fs each,
      first_below-none (other_slots n fs) (length fs)
          (λ i h. eqb-not _ _ (sym (length-list_of (get_or fs i [])) ∙ (each i h).slots)),
      le-ltb (length fs) (length fs) (omega arith),
    )
