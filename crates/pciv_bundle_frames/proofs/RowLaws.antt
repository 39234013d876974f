-- Laws of the row of a slot.
--   row_at fs slot f    the distance at a slot in frame f
--   absent-zero        it is 0 where that frame is absent
--   row-filled         the distances of the frames, and zeros up to eight, are the row
-- Axioms: none.
use mathlib.Core.Path.{◌≡◌, refl, sym, ap, ◌∙◌}
use Prim.Native.Nat.{ℕ, ◌+◌, ◌-◌, ◌≤◌, ◌<◌}
use native.Mathlib.Nat.{zero-add}
use native.Mathlib.Omega.{arith}
use native.Mathlib.Decide.{dec_le}
use mathlib.Core.List.{List, [], ◌++◌}
use lib.ListN.{length, get_or, drop, replicate, length-append, length-drop, get_or-append, get_or-replicate, get_or-eq_default}
use Rattle.std.proofs.lemmas.List.{get_or-drop, get_or-append_right}
use lib.Seq.{ext_get_or}
use Rattle.pciv_bytes.specs.LittleEndian.{get, number}
use Rattle.pciv_bytes.specs.Ranges.{table}
use Rattle.pciv_bytes.proofs.RangesLaws.{length-table, get_or-table}
use Rattle.pciv_format.specs.Layout.{at}
use Rattle.pciv_format.specs.Check.{n_field}
use Rattle.pciv_format.specs.Read.{list_of}
use Rattle.pciv_format.proofs.ReadLaws.{length-list_of}
use Rattle.pciv_bundle_frames.specs.Frames.{row_of}

abbrev pub row_at : List (List ℕ) → ℕ → ℕ → ℕ
row_at fs slot f = at (list_of (get_or fs f [])) slot

no-slots : n_field [] ≡ 0
unfolding get number
no-slots = refl

pub absent-zero : (fs : List (List ℕ)) (slot f : ℕ) → length fs ≤ f → row_at fs slot f ≡ 0
absent-zero fs slot f h =
    rw (get_or-eq_default fs [] h)
    (get_or-eq_default (list_of []) 0 (omega (arith, length-list_of [], no-slots)))

-- the distances of the frames, and zeros
pub row-filled : (fs : List (List ℕ)) (slot : ℕ) (distances : List ℕ) (count : ℕ) → count ≡ length fs → count ≤ 8
    → length distances ≡ count → ((f : ℕ) → f < count → get_or distances f 0 ≡ row_at fs slot f)
    → distances ++ drop count (replicate 8 0) ≡ row_of fs slot
unfolding row_of
row-filled fs slot distances count many few long each =
    let rest : List ℕ = drop count (replicate 8 0) in
    let v : ℕ → ℕ = row_at fs slot in
    let eight : length (distances ++ rest) ≡ 8 = simp (length-append, length-drop) (omega arith) in
    ext_get_or 0 (distances ++ rest) (table v 0 8) (eight ∙ sym (length-table v 0 8))
    (λ f h. at_each f (omega (arith, eight)) ∙ sym (get_or-table v 0 0 8 f (omega (arith, eight)) ∙ ap v (zero-add f)))
  where
    at_each : (f : ℕ) → f < 8 → get_or (distances ++ drop count (replicate 8 0)) f 0 ≡ row_at fs slot f
    at_each f h =
        let rest : List ℕ = drop count (replicate 8 0) in
        elim (dec_le count f) [
          | yes d ↦ get_or-append_right distances rest count f 0 long d
              ∙ get_or-drop count (replicate 8 0) (f - count) 0
              ∙ get_or-replicate 8 (count + (f - count)) 0 0 (omega arith)
              ∙ sym (absent-zero fs slot f (omega arith))
          | no d ↦ get_or-append distances rest 0 f (omega arith) ∙ each f (omega arith)
        ]
