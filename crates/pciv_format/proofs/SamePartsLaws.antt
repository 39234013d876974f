-- Parts that agree: those of a file and of a longer buffer, or of a file and of a caller's lists.
--   SameParts P Q      Q has the numbers of P
--   same_back          so P has those of Q
--   sound-same         Q is sound where P is
--   value_of-same       each slot has the same distance
-- Axioms: none.
use mathlib.Core.Path.{◌≡◌, refl, sym, ap, ap₂, ◌∙◌}
use Prim.Native.Nat.{ℕ, zero, suc, ◌+◌, ◌<◌}
use native.Mathlib.Omega.{arith}
use native.Mathlib.Decide.{dec_le}
use mathlib.Core.Bool.{Bool, ◌&&◌}
use lib.Dec.{leb, eqb}
use Rattle.pciv_bytes.specs.Ranges.{first_below}
use Rattle.pciv_bytes.proofs.RangesLaws.{first_below-cong}
use Rattle.pciv_format.specs.Parts.{Parts, lowest_slot, entry_of, bad_slot, value_of, SoundParts}
use Rattle.pciv_format.proofs.PartsLaws.{bad_entry-good, entry-good, slot-entry, value_of-slot, value_of-inline}

-- Q has the numbers of P
pub record SameParts (P Q : Parts) : Type 0 where
  pub n_same : Q.n ≡ P.n
  pub k_same : Q.k ≡ P.k
  pub byte_same : (i : ℕ) → i < P.n → Q.byte i ≡ P.byte i
  pub slot_same : (j : ℕ) → j < P.k → Q.slot j ≡ P.slot j
  pub distance_same : (j : ℕ) → j < P.k → Q.distance j ≡ P.distance j

module _ (P Q : Parts) (same : SameParts P Q) where
  lowest-same : (j : ℕ) → j < P.k → lowest_slot Q j ≡ lowest_slot P j
  lowest-same zero h = refl
  lowest-same (suc j) h = ap (λ (s : ℕ). s + 1) (same.slot_same j (omega arith))

  entry_of-same : (i : ℕ) → entry_of Q i ≡ entry_of P i
  unfolding entry_of
  entry_of-same i =
      ap (first_below (λ (j : ℕ). eqb (Q.slot j) i)) same.k_same
      ∙ first_below-cong (λ (j : ℕ). eqb (Q.slot j) i) (λ (j : ℕ). eqb (P.slot j) i) P.k
      (λ j h. ap (λ (s : ℕ). eqb s i) (same.slot_same j h))

  bad_slot-same : (i : ℕ) → i < P.n → bad_slot Q i ≡ bad_slot P i
  unfolding bad_slot
  bad_slot-same i h =
      ap₂ (λ (x y : Bool). x && y) (ap (λ (x : ℕ). eqb x 255) (same.byte_same i h))
      (ap₂ leb same.k_same (entry_of-same i))

  pub sound-same : SoundParts P → SoundParts Q
  sound-same s =
      record {
        entries = λ j h.
            (let h' : j < P.k = omega (arith, same.k_same) in
            let g = entry-good P s j h' in
            let e = same.slot_same j h' in
            bad_entry-good Q j
            (record {
              inside = omega (arith, e, g.inside, same.n_same);
              above = omega (arith, e, g.above, lowest-same j h');
              overflows = omega (arith, same.distance_same j h', g.overflows);
              marked = ap Q.byte e ∙ same.byte_same (P.slot j) g.inside ∙ g.marked;
            }));
        slots = λ i h.
            (let h' : i < P.n = omega (arith, same.n_same) in
            bad_slot-same i h' ∙ s.slots i h');
      }

-- where Q has the numbers of P, P has those of Q
pub same_back : (P Q : Parts) → SameParts P Q → SameParts Q P
same_back P Q s =
    record {
      n_same = sym s.n_same;
      k_same = sym s.k_same;
      byte_same = λ i h. sym (s.byte_same i (omega (arith, s.n_same)));
      slot_same = λ j h. sym (s.slot_same j (omega (arith, s.k_same)));
      distance_same = λ j h. sym (s.distance_same j (omega (arith, s.k_same)));
    }

-- and each slot its distance
pub value_of-same : (P Q : Parts) → SameParts P Q → SoundParts P → (i : ℕ) → i < P.n → P.byte i < 256
    → value_of Q i ≡ value_of P i
value_of-same P Q same sound i h byte =
    let sound_q = sound-same P Q same sound in
    elim (dec_le 255 (P.byte i)) [
      | yes d ↦ (let q = slot-entry P sound i h (omega arith) in
          let j : ℕ = q.0 in
          ap (value_of Q) (sym (same.slot_same j q.1 ∙ q.2))
          ∙ value_of-slot Q sound_q j (omega (arith, same.k_same, q.1))
          ∙ same.distance_same j q.1
          ∙ sym (ap (value_of P) (sym q.2) ∙ value_of-slot P sound j q.1))
      | no d ↦ value_of-inline Q sound_q i (rw (same.byte_same i h) (omega arith))
          ∙ same.byte_same i h
          ∙ sym (value_of-inline P sound i (omega arith))
    ]
