-- The parts that close is given: two lists of entries, and these with the distances left out.
--   slot_is, entry-is       the slot of entry j, and its test
--   first-bad-end           where the entries that both lists have are right: the first that one of them lacks, if any
--   lengths-same            where all are right, the lists are equally long
--   slot_parts-right, -slot  with the distances left out: every entry is right, and the same slots lack an entry
-- Axioms: none.
use mathlib.Core.Path.{◌≡◌, refl, sym, ap, ◌∙◌}
use Prim.Native.Nat.{ℕ, zero, suc, min, max, ◌≤◌, ◌<◌}
use native.Mathlib.Nat.{max-eq_left}
use native.Mathlib.Omega.{arith}
use native.Mathlib.Decide.{dec_le}
use mathlib.Core.Bool.{true, false, ◌&&◌}
use mathlib.Core.List.{List}
use lib.ListN.{length, get_or, get_or-eq_default}
use lib.Dec.{leb, eqb}
use Rattle.pciv_bytes.specs.Ranges.{first_below}
use Rattle.pciv_bytes.proofs.RangesLaws.{true-false, get_or-inside, first_below-none, first_below-at, first_below-cong}
use Rattle.pciv_format.specs.Layout.{at}
use Rattle.pciv_format.specs.Parts.{Parts, wrong_entry, lowest_slot, bad_entry, entry_of, bad_slot, EntriesRight}
use Rattle.pciv_format.specs.Write.{close_parts}
use Rattle.pciv_format.proofs.PartsLaws.{GoodEntry, good_entry-of-test, bad_entry-good}
use Rattle.pciv_format.proofs.BadEntryLaws.{wrong_entry-outside, wrong_entry-inline, bad_entry-is}
use Rattle.pciv_close.specs.Close.{slot_parts}

-- ---- two lists of entries

module _ (bytes slots distances : List ℕ) where
  pub slot_is : (j : ℕ) → j < length slots → (close_parts bytes slots distances).slot j ≡ at slots j
  slot_is j h = get_or-inside slots j (length bytes) 0 h

  pub entry-is : (j lowest : ℕ) → j < length slots → lowest ≡ lowest_slot (close_parts bytes slots distances) j
      → bad_entry (close_parts bytes slots distances) j
      ≡ wrong_entry (length bytes) (at bytes) lowest (at slots j) (at distances j)
  entry-is j lowest h e = bad_entry-is (close_parts bytes slots distances) j ∙ rw (e, slot_is j h)

  -- an entry that a list lacks
  lacks-slot : (j : ℕ) → length slots ≤ j → bad_entry (close_parts bytes slots distances) j ≡ true
  lacks-slot j h =
      bad_entry-is (close_parts bytes slots distances) j
      ∙ wrong_entry-outside _ _ _ _ _ (omega (arith, get_or-eq_default slots (length bytes) h))

  lacks-distance : (j : ℕ) → length distances ≤ j → bad_entry (close_parts bytes slots distances) j ≡ true
  lacks-distance j h =
      bad_entry-is (close_parts bytes slots distances) j
      ∙ wrong_entry-inline _ _ _ _ _ (omega (arith, get_or-eq_default distances 0 h))

  lacks : (j : ℕ) → min (length slots) (length distances) ≤ j → bad_entry (close_parts bytes slots distances) j ≡ true
  lacks j h =
      elim (dec_le (length slots) j)
      [ yes d ↦ lacks-slot j d | no d ↦ lacks-distance j (omega arith) ]

  -- the entries that both lists have are right
  pub first-bad-end : (end : ℕ) → end ≡ min (length slots) (length distances)
      → ((j : ℕ) → j < end → bad_entry (close_parts bytes slots distances) j ≡ false)
      → first_below (bad_entry (close_parts bytes slots distances)) (max (length slots) (length distances)) ≡ end
  first-bad-end end e right =
      let k : ℕ = max (length slots) (length distances) in
      elim (dec_le k end) [
        | yes d ↦ (let q : k ≡ end = omega arith in first_below-none _ k (λ j h. right j (omega arith)) ∙ q)
        | no d ↦ first_below-at _ k end (omega arith) right (lacks end (omega arith))
      ]

  module _ (right : EntriesRight (close_parts bytes slots distances)) where
    -- no list lacks one
    pub lengths-same : length slots ≡ length distances
    lengths-same =
        elim (dec_le (max (length slots) (length distances)) (min (length slots) (length distances))) [
          | yes d ↦ omega arith
          | no d ↦ (let j : ℕ = min (length slots) (length distances) in
              absurd (true-false (sym (lacks j (omega arith)) ∙ right j (omega arith))))
        ]

    lowest-is : (j : ℕ) → j < length slots
        → lowest_slot (slot_parts bytes slots) j ≡ lowest_slot (close_parts bytes slots distances) j
    lowest-is zero h = refl
    lowest-is (suc j) h = rw (slot_is j (omega arith))

    -- the distances left out
    pub slot_parts-right : EntriesRight (slot_parts bytes slots)
    slot_parts-right j h =
        let P : Parts = close_parts bytes slots distances in
        let g : GoodEntry P j = good_entry-of-test P j (right j (omega arith)) in
        let s = slot_is j h in
        bad_entry-good (slot_parts bytes slots) j
        (record {
          inside = rw s at g.inside;
          above = rw (lowest-is j h, ← s) g.above;
          overflows = omega arith;
          marked = rw s at g.marked;
        })

    pub slot_parts-slot : (i : ℕ) → bad_slot (slot_parts bytes slots) i ≡ bad_slot (close_parts bytes slots distances) i
    unfolding bad_slot entry_of
    slot_parts-slot i =
        let k : max (length slots) (length distances) ≡ length slots = max-eq_left (omega (arith, lengths-same)) in
        rw k
        (ap (λ (r : ℕ). eqb (at bytes i) 255 && leb (length slots) r)
        (first_below-cong (λ (j : ℕ). eqb (at slots j) i) (λ (j : ℕ). eqb (get_or slots j (length bytes)) i) (length slots)
        (λ j h. ap (λ (s : ℕ). eqb s i) (sym (slot_is j h)))))
