-- Laws of checked frames: the passes over their bytes and their entries make the nearest distance of every slot.
--   nearest-passes   both passes, over a whole list
-- Axioms: none.
use Rattle.std.proofs.Common.{◌≡◌, ℕ, suc, ◌+◌, ◌<◌, ◌≤◌, min, List, [], ◌∷◌, length, sym, refl, ap, ◌∙◌, arith, ext_get_or}
use native.Mathlib.Decide.{dec_le}
use Rattle.std.proofs.lemmas.Bool.Decides.{nat_tests}
use mathlib.Core.List.{foldl}
use lib.Seq.{sets, length-sets}
use Rattle.pciv_bytes.specs.LittleEndian.{Bytes}
use Rattle.pciv_bytes.specs.Ranges.{table}
use Rattle.pciv_bytes.proofs.WriteLaws.{sets-table-at, sets-table-above}
use Rattle.pciv_format.specs.Layout.{max_distance, at}
use Rattle.pciv_format.specs.Parts.{Parts, value_of}
use Rattle.pciv_format.specs.Check.{k_field, file_parts, CheckedMap}
use Rattle.pciv_format.specs.Read.{list_of}
use Rattle.pciv_format.proofs.PartsLaws.{slot_cases}
use Rattle.pciv_format.proofs.MapLaws.{value-lt}
use Rattle.pciv_format.proofs.ReadLaws.{at-list}
use Rattle.pciv_bundle_frames.specs.Frames.{CheckedFrames}
use Rattle.pciv_bundle_nearest.specs.Nearest.{nearer, nearest_of, distances_at, nearest_at, nearest_list}
use Rattle.pciv_bundle_nearest.specs.Passes.{raised_byte, nearest_byte, entry_step, Changed}
use Rattle.pciv_bundle_nearest.proofs.NearestLaws.{nearer-left, nearer-assoc}
use Rattle.pciv_bundle_nearest.proofs.BlockLaws.{raised_byte-hole, capped, capped-full, capped-inline}
use Rattle.pciv_bundle_nearest.proofs.BlockLaws.{AllBytes, caps, bytes-nearest}
use Rattle.pciv_bundle_nearest.proofs.LoweredLaws.{lowered_to-inline, lowered_to-full}

-- ---- one slot

-- the largest distance gives way to the true one
less-cap : (y v rest : ℕ) → 0 < v → v ≤ max_distance
    → min (nearer y (nearer max_distance rest)) v ≡ nearer y (nearer v rest)
less-cap y v rest some small = grind (arith, nat_tests)

-- the entry of a frame puts its true distance for the one that its byte stands for
module _ (b : List ℕ) (n i y rest : ℕ) (c : CheckedMap b n (k_field b)) (bytes : Bytes b) (inside : i < n) where
  true-distance : entry_step n i (nearer y (nearer (capped (at b (40 + i))) rest)) b
      ≡ nearer (nearer y (at (list_of b) i)) rest
  true-distance =
      let P : Parts = file_parts b n (k_field b) in
      let x : ℕ = at b (40 + i) in
      let v : ℕ = value_of P i in
      let is : at (list_of b) i ≡ v = at-list b n (k_field b) c.header.n_is refl i inside in
      slot_cases P c.parts (λ t. bytes (40 + t)) i inside
      (λ small e.
      lowered_to-inline P i _ small
      ∙ ap (λ (t : ℕ). nearer y (nearer t rest)) (capped-inline x small ∙ sym (is ∙ e))
      ∙ sym (nearer-assoc y (at (list_of b) i) rest))
      (λ j hj at' full w overflows.
      lowered_to-full P i _ full
      ∙ ap (λ (t : ℕ). min (nearer y (nearer t rest)) v) (capped-full x full)
      ∙ less-cap y v rest (omega arith) (omega (arith, value-lt b n (k_field b) c bytes i inside))
      ∙ sym (nearer-assoc y v rest)
      ∙ ap (λ (t : ℕ). nearer (nearer y t) rest) (sym is))

entries-nearest : (fs : List (List ℕ)) (n i y : ℕ) → CheckedFrames fs n → AllBytes fs → i < n
    → foldl (entry_step n i) (nearer y (nearest_of (caps fs i))) fs ≡ nearer y (nearest_of (distances_at fs i))
unfolding nearest_of distances_at
entries-nearest [] n i y checked bytes inside = refl
entries-nearest (b ∷ fs) n i y checked bytes inside =
    let rest : ℕ = nearest_of (caps fs i) in
    ap (λ (x : ℕ). foldl (entry_step n i) x fs)
    (true-distance b n i y rest (checked 0 (omega arith)) (bytes 0 (omega arith)) inside)
    ∙ entries-nearest fs n i (nearer y (at (list_of b) i)) (λ f h. checked (suc f) (omega arith))
    (λ f h. bytes (suc f) (omega arith)) inside
    ∙ nearer-assoc y (at (list_of b) i) (nearest_of (distances_at fs i))

-- ---- the whole list

module _ (fs : List (List ℕ)) (n : ℕ) (checked : CheckedFrames fs n) (bytes : AllBytes fs) where
  nearest-made : (i : ℕ) → i < n → foldl (entry_step n i) (nearest_byte fs i) fs ≡ nearest_at fs i
  nearest-made i inside =
      ap (λ (x : ℕ). foldl (entry_step n i) x fs)
      (bytes-nearest fs i 255 bytes (omega arith) ∙ nearer-left (raised_byte 255) _ (raised_byte-hole 255 refl))
      ∙ entries-nearest fs n i 0 checked bytes inside

  -- the bytes' distances at the front of a list, then the entries'
  pub nearest-passes : (old mid new : List ℕ) → n ≤ length old → mid ≡ sets old 0 (table (nearest_byte fs) 0 n)
      → Changed (λ (i x : ℕ). foldl (entry_step n i) x fs) n mid new → new ≡ sets old 0 (nearest_list fs n)
  unfolding nearest_list
  nearest-passes old mid new long is c =
      ext_get_or 0 new (sets old 0 (table (nearest_at fs) 0 n)) (c.same ∙ ap length is ∙ simp length-sets)
      (λ i h.
      elim (dec_le n i) [
        | yes past ↦ c.rest i past ∙ ap (λ (l : List ℕ). at l i) is ∙ sets-table-above (nearest_byte fs) n old i past
            ∙ sym (sets-table-above (nearest_at fs) n old i past)
        | no d ↦ (let inside : i < n = omega arith in
            c.each i inside
            ∙ ap (λ (l : List ℕ). foldl (entry_step n i) (at l i) fs) is
            ∙ ap (λ (x : ℕ). foldl (entry_step n i) x fs) (sets-table-at (nearest_byte fs) n old long i inside)
            ∙ nearest-made i inside
            ∙ sym (sets-table-at (nearest_at fs) n old long i inside))
      ])
