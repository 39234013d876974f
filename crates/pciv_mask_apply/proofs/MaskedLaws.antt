-- What the routines of this crate answer and leave where they are not refused.
--   map-good, map-buffer    `map_of_mask` of a mask: the answer, and the buffer after it
--   masked-written          what a mask makes of a map: the answer, and the buffer after it
-- Axioms: none.
use Rattle.std.proofs.Common.{Ok}
use mathlib.Core.Path.{◌≡◌, sym, ap, ◌∙◌}
use Prim.Native.Nat.{ℕ, ◌≤◌, ◌<◌}
use native.Mathlib.Omega.{arith}
use mathlib.Core.Bool.{Bool, false}
use mathlib.Core.List.{List}
use lib.ListN.{length}
use borrow.Author.Tests.{le-ltb}
use Rattle.pciv_bytes.proofs.RangesLaws.{flag-le}
use Rattle.pciv_format.specs.Layout.{max_slots, at}
use Rattle.pciv_format.specs.Refusals.{Outcome}
use Rattle.pciv_format.specs.Parts.{value_of}
use Rattle.pciv_format.specs.Check.{file_parts, counts_file, CheckedMap}
use Rattle.pciv_format.specs.Read.{list_of}
use Rattle.pciv_format.specs.Write.{file_into, map_into, file_buffer}
use Rattle.pciv_format.specs.Mask.{mask_has, bad_mask, mask_value, map_of_mask_outcome, map_of_mask_buffer}
use Rattle.pciv_format.specs.Mask.{masked_outcome, masked_buffer}
use Rattle.pciv_format.specs.declared.Counts.{Counts}
use Rattle.pciv_format.specs.declared.Summary.{Summary}
use Rattle.pciv_format.proofs.CheckLaws.{done-counts}
use Rattle.pciv_format.proofs.ReadLaws.{length-list_of, at-list}
use Rattle.pciv_build.proofs.IntoLaws.{map-fits, map-written}

-- ---- a mask as a map

module _ (n : ℕ) (ws : List ℕ) where
  pub map-good : (capacity : ℕ) → n ≤ max_slots → bad_mask n ws ≡ false
      → map_of_mask_outcome n ws capacity ≡ file_into n (mask_value ws) capacity
  unfolding map_of_mask_outcome
  map-good capacity few good =
      rw (le-ltb max_slots n few, good)
      (map-fits n (mask_value ws) capacity (λ i h. omega (arith, flag-le (mask_has ws i))))

  pub map-buffer : (out : List ℕ) (o : Outcome Summary) → map_of_mask_outcome n ws (length out) ≡ o
      → file_buffer o n (mask_value ws) out ≡ map_of_mask_buffer n ws out
  unfolding map_of_mask_buffer
  map-buffer out o e = rw e

-- ---- what a mask makes of a map

module _ (f : Bool → ℕ → ℕ) (b ws : List ℕ) where
  module _ (s : Counts) (e : counts_file 1 b ≡ Ok s) where
    abbrev v : ℕ → ℕ
    v i = f (mask_has ws i) (value_of (file_parts b s.n s.k) i)

    abbrev w : ℕ → ℕ
    w i = f (mask_has ws i) (at (list_of b) i)

    checked : CheckedMap b s.n s.k
    checked = (done-counts 1 b s e).0

    same : (i : ℕ) → i < s.n → v i ≡ w i
    same i h =
        ap (f (mask_has ws i)) (sym (at-list b s.n s.k checked.header.n_is checked.header.k_is i h))

    pub masked-written : bad_mask s.n ws ≡ false → (out d : List ℕ) (x : Outcome Summary)
        → (let v : ℕ → ℕ = λ i. f (mask_has ws i) (value_of (file_parts b s.n s.k) i) in
        let into = map_into s.n v (length out) in
        x ≡ into → d ≡ file_buffer into s.n v out
        → (x ≡ (masked_outcome f b ws (length out))) × (d ≡ masked_buffer f b ws out))
    masked-written good out d x answer buffer =
        map-written s.n v w same (length (list_of b)) (length-list_of b ∙ checked.header.n_is) out d x
        (masked_outcome f b ws (length out)) (rw (e, good)) answer buffer
