-- Laws of distances that are lowered by the overflow entries of a map.
--   lowered_to-inline, -full, -entry    a slot that is inline stays; one in overflow gets the smaller distance
--   lowered-entry, lowered-entries     one entry on, and all of them
-- Axioms: none.
use Rattle.std.proofs.Common.{◌≡◌, ℕ, zero, suc, ◌+◌, ◌<◌, ◌≤◌, min, List, length, set, sym, ap, ◌∙◌, add-one, arith, eq-eqb, ne_eqb}
use Rattle.pciv_format.specs.Layout.{at}
use Rattle.pciv_format.specs.Parts.{Parts, lowest_slot, value_of, SoundParts}
use Rattle.pciv_format.proofs.PartsLaws.{entry-good, value_of-slot}
use Rattle.pciv_format.proofs.EntryLaws.{gap-inline}
use Rattle.pciv_bundle_nearest.specs.Passes.{lowered_to, Changed}
use Rattle.pciv_bundle_nearest.proofs.ChangedLaws.{changed-more, changed-to}

module _ (P : Parts) (i x : ℕ) where
  pub lowered_to-inline : P.byte i < 255 → lowered_to P i x ≡ x
  unfolding lowered_to
  lowered_to-inline small = rw (ne_eqb (P.byte i) 255 (λ q. omega arith))

  pub lowered_to-full : P.byte i ≡ 255 → lowered_to P i x ≡ min x (value_of P i)
  unfolding lowered_to
  lowered_to-full full = rw (eq-eqb (P.byte i) 255 full)

pub lowered_to-entry : (P : Parts) → SoundParts P → (j x : ℕ) → j < P.k
    → lowered_to P (P.slot j) x ≡ min x (P.distance j)
lowered_to-entry P sound j x h =
    lowered_to-full P (P.slot j) x (entry-good P sound j h).marked ∙ ap (min x) (value_of-slot P sound j h)

-- one entry on, where the slots below the least one that entry j may have are lowered
module _ (P : Parts) (sound : SoundParts P) (bytes : (i : ℕ) → P.byte i < 256) {old new : List ℕ} where
  pub lowered-entry : (j x : ℕ) → Changed (lowered_to P) (lowest_slot P j) old new → j < P.k → P.n ≤ length old
      → x ≡ min (at new (P.slot j)) (P.distance j)
      → Changed (lowered_to P) (lowest_slot P (j + 1)) old (set new (P.slot j) x)
  lowered-entry j x c here long is =
      let good = entry-good P sound j here in
      let gap = changed-to c (P.slot j) good.above
      (λ i y h₁ h₂.
      lowered_to-inline P i y
      (gap-inline P sound bytes j i (omega arith) h₁ (λ more. h₂) (omega (arith, good.inside)))) in
      rw (add-one j)
      (changed-more gap x (omega (arith, good.inside))
      (is ∙ sym (lowered_to-entry P sound j (at new (P.slot j)) here)))

  pub lowered-entries : (j : ℕ) → Changed (lowered_to P) (lowest_slot P j) old new → j ≡ P.k
      → Changed (lowered_to P) P.n old new
  lowered-entries j c all =
      changed-to c P.n (lowest-le j (omega arith))
      (λ i y h₁ h₂.
      lowered_to-inline P i y (gap-inline P sound bytes j i (omega arith) h₁ (λ more. absurd (omega arith)) h₂))
    where
      lowest-le : (j : ℕ) → j ≤ P.k → lowest_slot P j ≤ P.n
      lowest-le zero h = omega arith
      lowest-le (suc j) h = omega (arith, (entry-good P sound j (omega arith)).inside)
