-- Laws of a primary array and overflow entries, wherever they stand, and of the tests on them.
--   or-false, or-true, and_left, and-false, not_eqb, eqb-not, neb-not    of tests
--   primary_byte-overflow, -inline, -min, -full, -zero    the primary byte of a distance
--   RightEntry, GoodEntry P j   what is known of an entry that is right; of entry j
--   right_entry-of-test, wrong_entry-right, good_entry-of-test, bad_entry-good    from the test, and to it
--   entry_at, entries-rise      where every entry is right: each of them, and that the slots rise
--   entry-good, slots-rise      the same of sound parts
--   entry_of-slot, value_of-slot  the entry and the distance at an entry's slot
--   entry_of-none, -inline, -past    k for a slot that no entry has, with a byte below 255, past the last slot
--   slot-entry                  a slot with byte 255 has an entry
--   value_of-inline, slot_cases  the distance of a slot that is stored inline; what is known of any slot
--   primary_byte-value_of, value_of-le    the primary byte of the distance, and the largest distance
--   overflow_slots-are, overflow_count-is    the slots in overflow are the entries' slots
-- Axioms: none.
use mathlib.Core.Path.{◌≡◌, refl, sym, ap, ◌∙◌}
use Prim.Native.Nat.{ℕ, suc, ◌≤◌, ◌<◌, min}
use native.Mathlib.Omega.{arith}
use native.Mathlib.Decide.{dec_le}
use mathlib.Core.Bool.{Bool, true, false, not, ◌&&◌, ◌||◌}
use lib.ListN.{length}
use lib.Dec.{eqb}
use borrow.Author.Tests.{lt-ltb, le-ltb, le-leb, lt-leb, eq-eqb, ne_eqb, ltb-false, leb-true, leb-false}
use borrow.Author.Tests.{eqb-true, not-false}
use Rattle.pciv_bytes.specs.Ranges.{first_below, table}
use Rattle.pciv_bytes.proofs.RangesLaws.{first_below-none, first_below-at, first_below-has, length-table}
use Rattle.pciv_bytes.proofs.PositionsLaws.{rises, positions-are}
use Rattle.pciv_format.specs.Layout.{max_distance, in_overflow, primary_byte, overflow_slots, overflow_count}
use Rattle.pciv_format.specs.Parts.{Parts, wrong_entry, lowest_slot, bad_entry, entry_of, bad_slot}
use Rattle.pciv_format.specs.Parts.{value_of, EntriesRight, SoundParts}

-- ---- tests

pub or-false : (a b : Bool) → a || b ≡ false → (a ≡ false) × (b ≡ false)
or-false true b e = let z : ◌≡◌ {A = ℕ} 0 1 = cc in absurd (omega arith)
or-false false b e = (refl, e)

pub or-true : (a : Bool) → a || true ≡ true
or-true true = refl
or-true false = refl

pub and_left : (a b : Bool) → a && b ≡ false → a ≡ true → b ≡ false
and_left true b e q = e
and_left false b e q = let z : ◌≡◌ {A = ℕ} 0 1 = cc in absurd (omega arith)

pub and-false : (a : Bool) → a && false ≡ false
and-false true = refl
and-false false = refl

pub not_eqb : (x y : ℕ) → not (eqb x y) ≡ false → x ≡ y
not_eqb x y e = eqb-true x y (not-false (eqb x y) e)

pub eqb-not : (x y : ℕ) → x ≡ y → not (eqb x y) ≡ false
eqb-not x y e = rw (eq-eqb x y e)

pub neb-not : (x y : ℕ) → (x ≡ y → ⊥) → not (eqb x y) ≡ true
neb-not x y e = rw (ne_eqb x y e)

-- ---- the primary byte of a distance

pub primary_byte-overflow : (x : ℕ) → 255 ≤ x → primary_byte x ≡ 255
primary_byte-overflow x h = rw (le-ltb x 255 h)

pub primary_byte-inline : (x : ℕ) → x < 255 → primary_byte x ≡ x
primary_byte-inline x h = rw (lt-ltb x 255 h)

pub primary_byte-min : (x : ℕ) → primary_byte x ≡ min 255 x
primary_byte-min x =
    elim (dec_le 255 x) [
      | yes d ↦ primary_byte-overflow x d ∙ omega arith
      | no d ↦ primary_byte-inline x (omega arith) ∙ omega arith
    ]

-- a byte is 255 where the distance is in overflow
pub primary_byte-full : (x : ℕ) → eqb (primary_byte x) 255 ≡ in_overflow x
primary_byte-full x =
    elim (dec_le 255 x) [
      | yes d ↦ eq-eqb (primary_byte x) 255 (primary_byte-overflow x d) ∙ sym (le-leb 255 x d)
      | no d ↦ ne_eqb (primary_byte x) 255 (λ q. omega (arith, q, primary_byte-inline x (omega arith)))
          ∙ sym (lt-leb 255 x (omega arith))
    ]

-- a byte is 0 where the distance is
pub primary_byte-zero : (x : ℕ) → eqb (primary_byte x) 0 ≡ eqb x 0
primary_byte-zero x =
    elim (dec_le 255 x) [
      | yes d ↦ rw (primary_byte-overflow x d) (sym (ne_eqb x 0 (λ q. omega arith)))
      | no d ↦ rw (primary_byte-inline x (omega arith))
    ]

-- ---- an overflow entry that is right

pub record RightEntry (n : ℕ) (byte : ℕ → ℕ) (lowest slot distance : ℕ) : Type 0 where
  pub inside : slot < n
  pub above : lowest ≤ slot
  pub overflows : 255 ≤ distance
  pub marked : byte slot ≡ 255

module _ (n : ℕ) (byte : ℕ → ℕ) (lowest slot distance : ℕ) where
  pub right_entry-of-test : wrong_entry n byte lowest slot distance ≡ false → RightEntry n byte lowest slot distance
  unfolding wrong_entry
  right_entry-of-test e =
      let o₃ = or-false _ _ e in
      let o₂ = or-false _ _ o₃.0 in
      let o₁ = or-false _ _ o₂.0 in
      record {
        inside = leb-false _ _ o₁.0;
        above = ltb-false _ _ o₁.1;
        overflows = ltb-false _ _ o₂.1;
        marked = not_eqb _ _ o₃.1;
      }

  pub wrong_entry-right : RightEntry n byte lowest slot distance → wrong_entry n byte lowest slot distance ≡ false
  unfolding wrong_entry
  wrong_entry-right g =
      rw (
        lt-leb n slot g.inside,
        le-ltb slot lowest g.above,
        le-ltb distance 255 g.overflows,
        eq-eqb (byte slot) 255 g.marked,
      )

abbrev pub GoodEntry : Parts → ℕ → Type 0
GoodEntry P j = RightEntry P.n P.byte (lowest_slot P j) (P.slot j) (P.distance j)

pub good_entry-of-test : (P : Parts) (j : ℕ) → bad_entry P j ≡ false → GoodEntry P j
unfolding bad_entry
good_entry-of-test P j e = right_entry-of-test _ _ _ _ _ e

pub bad_entry-good : (P : Parts) (j : ℕ) → GoodEntry P j → bad_entry P j ≡ false
unfolding bad_entry
bad_entry-good P j g = wrong_entry-right _ _ _ _ _ g

-- ---- where every entry is right

module _ (P : Parts) (right : EntriesRight P) where
  pub entry_at : (j : ℕ) → j < P.k → GoodEntry P j
  entry_at j h = good_entry-of-test P j (right j h)

  pub entries-rise : (j t : ℕ) → j < t → t < P.k → P.slot j < P.slot t
  entries-rise = rises P.slot P.k (λ j h. omega (arith, (entry_at (suc j) h).above))

-- ---- a slot that no entry has

pub entry_of-none : (P : Parts) (i : ℕ) → ((j : ℕ) → j < P.k → P.slot j ≡ i → ⊥) → entry_of P i ≡ P.k
unfolding entry_of
entry_of-none P i none =
    first_below-none (λ (j : ℕ). eqb (P.slot j) i) P.k (λ j h. ne_eqb (P.slot j) i (none j h))

-- ---- what sound parts satisfy

module _ (P : Parts) (s : SoundParts P) where
  pub entry-good : (j : ℕ) → j < P.k → GoodEntry P j
  entry-good = entry_at P s.entries

  pub slots-rise : (j t : ℕ) → j < t → t < P.k → P.slot j < P.slot t
  slots-rise = entries-rise P s.entries

  -- the entry of entry j's slot is j
  pub entry_of-slot : (j : ℕ) → j < P.k → entry_of P (P.slot j) ≡ j
  unfolding entry_of
  entry_of-slot j h =
      first_below-at (λ (i : ℕ). eqb (P.slot i) (P.slot j)) P.k j h
      (λ i hi. ne_eqb (P.slot i) (P.slot j) (λ q. omega (arith, slots-rise i j hi h)))
      (eq-eqb (P.slot j) (P.slot j) refl)

  -- the distance at entry j's slot
  pub value_of-slot : (j : ℕ) → j < P.k → value_of P (P.slot j) ≡ P.distance j
  unfolding value_of
  value_of-slot j h = rw ((entry-good j h).marked, entry_of-slot j h)

  pub entry_of-inline : (i : ℕ) → P.byte i < 255 → entry_of P i ≡ P.k
  entry_of-inline i small = entry_of-none P i (λ j h e. omega (arith, (entry-good j h).marked, ap P.byte e))

  pub entry_of-past : (i : ℕ) → P.n ≤ i → entry_of P i ≡ P.k
  entry_of-past i past = entry_of-none P i (λ j h e. omega (arith, (entry-good j h).inside))

  -- a slot with byte 255 has an entry
  pub slot-entry : (i : ℕ) → i < P.n → P.byte i ≡ 255 → (j : ℕ) × (j < P.k) × (P.slot j ≡ i)
  unfolding bad_slot entry_of
  slot-entry i h e =
      let p : ℕ → Bool = λ j. eqb (P.slot j) i in
      let lt : first_below p P.k < P.k = leb-false _ _ (and_left _ _ (s.slots i h) (eq-eqb _ _ e)) in
      (first_below p P.k, lt, eqb-true _ _ (first_below-has p P.k lt))

  -- a slot with a byte below 255 is stored inline
  pub value_of-inline : (i : ℕ) → P.byte i < 255 → value_of P i ≡ P.byte i
  unfolding value_of
  value_of-inline i h = rw (lt-ltb (P.byte i) 255 h)

  module _ (bytes : (i : ℕ) → P.byte i < 256) where
    -- what is known of slot i: inline, or in overflow with an entry j
    pub slot_cases : {B : Type 0} (i : ℕ) → i < P.n → (P.byte i < 255 → value_of P i ≡ P.byte i → B)
        → ((j : ℕ) → j < P.k → P.slot j ≡ i → P.byte i ≡ 255 → value_of P i ≡ P.distance j → 255 ≤ value_of P i → B)
        → B
    slot_cases i h inline overflow =
        elim (dec_le 255 (P.byte i)) [
          | yes d ↦ (let e : P.byte i ≡ 255 = omega (arith, bytes i) in
              let q = slot-entry i h e in
              let w : value_of P i ≡ P.distance q.0 = ap (value_of P) (sym q.2) ∙ value_of-slot q.0 q.1 in
              overflow q.0 q.1 q.2 e w (omega (arith, w, (entry-good q.0 q.1).overflows)))
          | no d ↦ inline (omega arith) (value_of-inline i (omega arith))
        ]

    -- the primary byte is that of the distance
    pub primary_byte-value_of : (i : ℕ) → i < P.n → primary_byte (value_of P i) ≡ P.byte i
    primary_byte-value_of i h =
        slot_cases i h (λ small e. rw e (primary_byte-inline _ small))
        (λ j hj at e w overflows. primary_byte-overflow (value_of P i) overflows ∙ sym e)

    pub value_of-le : ((j : ℕ) → j < P.k → P.distance j ≤ max_distance) → (i : ℕ) → i < P.n → value_of P i ≤ max_distance
    value_of-le each i h = slot_cases i h (λ small e. omega arith) (λ j hj at e w overflows. omega (arith, each j hj))

    byte-of-overflow : (i : ℕ) → i < P.n → 255 ≤ value_of P i → P.byte i ≡ 255
    byte-of-overflow i h overflows = slot_cases i h (λ small e. absurd (omega arith)) (λ j hj at e w overflows'. e)

    -- the slots in overflow are the entries' slots
    pub overflow_slots-are : overflow_slots P.n (value_of P) ≡ table P.slot 0 P.k
    unfolding overflow_slots
    overflow_slots-are =
        positions-are (λ (i : ℕ). in_overflow (value_of P i)) P.slot P.n 0 0 P.k
        (record {
          each = λ j h₁ h₂. (let hj : j < P.k = omega arith in
              record {
                low = omega arith;
                high = omega (arith, (entry-good j hj).inside);
                has = le-leb 255 (value_of P (P.slot j)) (omega (arith, value_of-slot j hj, (entry-good j hj).overflows));
              });
          rise = λ j l h₁ h₂ h₃. slots-rise j l h₂ (omega arith);
          every = λ t h₁ h₂ q.
              (let e : P.byte t ≡ 255 = byte-of-overflow t (omega arith) (leb-true 255 (value_of P t) q) in
              let r = slot-entry t (omega arith) e in
              (r.0, omega arith, omega (arith, r.1), r.2));
        })

    pub overflow_count-is : overflow_count P.n (value_of P) ≡ P.k
    unfolding overflow_count
    overflow_count-is = ap length overflow_slots-are ∙ length-table P.slot 0 P.k
