-- A computed map written as a file: refusal 11 or none, and the primary bytes in the buffer.
--   map-large              a routine that refuses where a distance is too large
--   map-fits               `map_into` answers what writing the file does where none is
--   fits-none              no slot is too large where none is found
--   map-written            a routine that writes v, where it is to write w with the outcome o: the distances of the n
--                          slots alone count
--   holds-primary          the primary bytes stand in a buffer where they were written
-- Axioms: none.
use Rattle.pciv_format.specs.declared.RefusalKind.TheVariants.{DistanceOverflow}
use mathlib.Core.Path.{◌≡◌, sym, ap, ◌∙◌}
use Prim.Native.Nat.{ℕ, ◌+◌, ◌≤◌, ◌<◌}
use native.Mathlib.Omega.{arith}
use mathlib.Core.List.{List}
use lib.ListN.{length}
use lib.Seq.{sets}
use lib.Dec.{ltb}
use borrow.Author.Tests.{le-ltb, ltb-false}
use Rattle.pciv_bytes.specs.Ranges.{first_below}
use Rattle.pciv_bytes.specs.ByteAt.{byte_at}
use Rattle.pciv_bytes.proofs.RangesLaws.{first_below-all, first_below-cong}
use Rattle.pciv_format.specs.Layout.{max_distance, primary, file}
use Rattle.pciv_format.specs.Refusals.{Outcome, refuse, written}
use Rattle.pciv_format.specs.Write.{file_into, map_into, file_buffer}
use Rattle.pciv_format.specs.declared.Summary.{Summary}
use Rattle.pciv_format.proofs.RefusalsLaws.{refuse_first-none, refuse_first-some}
use Rattle.pciv_format.proofs.LayoutLaws.{file-cong, summary-cong}
use Rattle.pciv_format.proofs.PrimaryLaws.{primary-at}
use Rattle.pciv_build.specs.Build.{Fits}
use Rattle.pciv_build.specs.Slots.{HoldsPrimary}

module _ (n : ℕ) (v : ℕ → ℕ) where
  -- a routine that refuses with 11 and leaves the buffer as it was
  pub map-large : (place : ℕ) → place ≡ first_below (λ (i : ℕ). ltb max_distance (v i)) n → place < n
      → (d : List ℕ) (a : Outcome Summary) → a ≡ (refuse DistanceOverflow 0 place)
      → (a ≡ (map_into n v (length d))) × (d ≡ file_buffer (map_into n v (length d)) n v d)
  map-large place is h d a answer =
      let o : map_into n v (length d) ≡ refuse DistanceOverflow 0 place =
      refuse_first-some DistanceOverflow 0 (λ (i : ℕ). ltb max_distance (v i)) n place (file_into n v (length d)) is h in
      (answer ∙ (sym o), rw o)

  pub map-fits : (capacity : ℕ) → Fits n v → map_into n v capacity ≡ file_into n v capacity
  map-fits capacity fits =
      refuse_first-none DistanceOverflow 0 (λ (i : ℕ). ltb max_distance (v i)) n (file_into n v capacity)
      (λ i h. le-ltb max_distance (v i) (fits i h))

  pub fits-none : (place : ℕ) → place ≡ first_below (λ (i : ℕ). ltb max_distance (v i)) n → n ≤ place → Fits n v
  fits-none place is h i inside =
      ltb-false max_distance (v i) (first_below-all (λ (i : ℕ). ltb max_distance (v i)) n i (omega arith) inside)

  pub holds-primary : (d d' : List ℕ) → 40 + n ≤ length d → d' ≡ sets d 40 (primary n v) → HoldsPrimary n v d'
  holds-primary d d' capacity is i h = ap (λ (b : List ℕ). byte_at b (40 + i)) is ∙ primary-at n v d capacity i h

-- ---- the distances of the n slots alone count

module _ (n : ℕ) (v w : ℕ → ℕ) (same : (i : ℕ) → i < n → v i ≡ w i) where
  map_into-cong : (capacity : ℕ) → map_into n v capacity ≡ map_into n w capacity
  map_into-cong capacity =
      rw (
        first_below-cong (λ (i : ℕ). ltb max_distance (v i)) (λ (i : ℕ). ltb max_distance (w i)) n
            (λ i h. ap (ltb max_distance) (same i h)),
        file-cong n v w same,
        summary-cong n v w same,
      )

  pub map-written : (m : ℕ) → m ≡ n → (out d : List ℕ) (a : Outcome Summary) (o : Outcome Summary)
      → o ≡ map_into n w (length out)
      → a ≡ (map_into n v (length out)) → d ≡ file_buffer (map_into n v (length out)) n v out
      → (a ≡ o) × (d ≡ file_buffer o m w out)
  map-written m size out d a o is answer buffer =
      let e : map_into n v (length out) ≡ o = map_into-cong (length out) ∙ sym is in (
        answer ∙ e,
        buffer
            ∙ ap (λ (x : Outcome Summary). file_buffer x n v out) e
            ∙ ap (λ (f : List ℕ). written o f out) (file-cong n v w same ∙ ap (λ (t : ℕ). file t w) (sym size)),
      )
