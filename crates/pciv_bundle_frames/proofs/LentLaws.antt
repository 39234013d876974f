-- Laws of the frames that a caller lends, as slices.
--   no_frame              what `get_or` answers past the last frame
--   lent frames           the frames, as lists of bytes
--   length-lent, lent-at  as many as the slices; one of them, from its slice
--   used frames count     the first `count` of them
--   used-lent             they are those of the first `count` slices
--   used-length           they are `count`, where there are eight slices
--   used-at, used-taken   one of them, from its slice among all, and among the first `count`
-- Axioms: none.
use mathlib.Core.Path.{◌≡◌, sym, ap, ◌∙◌}
use Prim.Native.Nat.{ℕ, ◌≤◌, ◌<◌}
use native.Mathlib.Omega.{arith}
use mathlib.Core.List.{List, [], map}
use lib.ListN.{length, get_or, take, length-map, get_or-map}
use lib.Seq.{length-take-le, get_or-take}
use Rattle.std.proofs.lemmas.List.{take-map}
use Rattle.std.specs.Borrow.{Bor}

abbrev pub no_frame : Bor (List ℕ)
no_frame = record { ref_ptr = (0, 0); now = [] }

abbrev pub lent : List (Bor (List ℕ)) → List (List ℕ)
lent frames = map (λ (x : Bor (List ℕ)). x.now) frames

pub length-lent : (frames : List (Bor (List ℕ))) → length (lent frames) ≡ length frames
length-lent frames = length-map frames (λ (x : Bor (List ℕ)). x.now)

pub lent-at : (frames : List (Bor (List ℕ))) (f : ℕ) → (get_or frames f no_frame).now ≡ get_or (lent frames) f []
lent-at frames f = sym (get_or-map (λ (x : Bor (List ℕ)). x.now) frames f no_frame)

abbrev pub used : List (Bor (List ℕ)) → ℕ → List (List ℕ)
used frames count = take count (lent frames)

module _ (frames : List (Bor (List ℕ))) (count : ℕ) where
  pub used-lent : used frames count ≡ lent (take count frames)
  used-lent = take-map (λ (x : Bor (List ℕ)). x.now) count frames

  pub used-length : length frames ≡ 8 → count ≤ 8 → length (used frames count) ≡ count
  used-length eight h = length-take-le count (lent frames) (omega (arith, length-lent frames))

  pub used-at : (f : ℕ) → f < count → (get_or frames f no_frame).now ≡ get_or (used frames count) f []
  used-at f h = lent-at frames f ∙ sym (get_or-take count (lent frames) f [] h)

  pub used-taken : (f : ℕ) → (get_or (take count frames) f no_frame).now ≡ get_or (used frames count) f []
  used-taken f = lent-at (take count frames) f ∙ ap (λ (fs : List (List ℕ)). get_or fs f []) (sym used-lent)
