-- The walk for the least slot where the result is too large.
--   Walked        its invariant: no slot below `slot` is too large, both cursors stand there, and it is the next
--                 one with an entry in either map
--   walked_start, _more    at the first slot with an entry in either map, and at the next one
--   walked-found, _none    the slot is too large, or no slot is
--   MostOf, most-all    a distance that none is above: of the entries before j, of all slots
--   none-large    no slot is too large where the largest of both are not
-- Axioms: none.
use mathlib.Core.Path.{◌≡◌, refl, sym}
use Prim.Native.Nat.{ℕ, ◌+◌, ◌-◌, ◌≤◌, ◌<◌, min}
use native.Mathlib.Omega.{arith}
use native.Mathlib.Decide.{dec_le}
use mathlib.Core.Bool.{false}
use borrow.Author.Tests.{lt-ltb, le-ltb}
use Rattle.pciv_bytes.specs.Ranges.{first_below}
use Rattle.pciv_bytes.proofs.RangesLaws.{first_below-at, first_below-none}
use Rattle.pciv_format.specs.Layout.{max_distance}
use Rattle.pciv_format.specs.Parts.{Parts, value_of, SoundParts}
use Rattle.pciv_format.proofs.PartsLaws.{entry-good, value_of-slot, slot_cases}
use Rattle.pciv_build.specs.Build.{NoneAbove}
use Rattle.pciv_map.specs.Cursor.{Cursor, next_slot}
use Rattle.pciv_map.proofs.CursorLaws.{cursor-start, cursor-to, next_slot-entry, next_slot-none}
use Rattle.pciv_map.proofs.CursorLaws.{next_slot-low, next_slot-le, gap-small}
use Rattle.pciv_arith_add.specs.Addition.{addend_at, added_at, too_large, CursorOf, next_of, Small}
use Rattle.pciv_arith_add.specs.declared.addend.Addend.{Addend}
use Rattle.pciv_arith_add.specs.declared.addend.Addend.TheVariants.{Map, Number}
use Rattle.pciv_check.proofs.SoundPairLaws.{SoundPair}
use Rattle.pciv_arith_add.proofs.AddendLaws.{added-low, added-high, added-sum}
use Rattle.pciv_arith_add.proofs.AddendLaws.{cursor_of-start, cursor_of-to, next_of-low, addend-gap}

pub record Walked (of : Addend) (P Q : Parts) (j t slot : ℕ) : Type 0 where
  pub inside : slot ≤ P.n
  pub first : Cursor P j slot
  pub second : CursorOf of Q t slot
  pub fine : (i : ℕ) → i < slot → too_large of P Q i ≡ false
  pub next : slot ≡ min (next_slot P j) (next_of of Q t)

-- the distance at the next slot with an entry
next-overflows : (P : Parts) → SoundParts P → (j : ℕ) → next_slot P j < P.n → 255 ≤ value_of P (next_slot P j)
next-overflows P sound j h =
    elim (dec_le P.k j) [
      | yes d ↦ absurd (omega (arith, next_slot-none P j d))
      | no d ↦ (let here : j < P.k = omega arith in
          rw (next_slot-entry P j here, value_of-slot P sound j here) (entry-good P sound j here).overflows)
    ]

module _ {P Q : Parts} (p : SoundPair P Q) (of : Addend) (small : Small of) where
  -- from i on to the next slot with an entry in either map
  walked_to : (j t i slot : ℕ) → i ≤ P.n → Cursor P j i → CursorOf of Q t i
      → ((u : ℕ) → u < i → too_large of P Q u ≡ false) → slot ≡ min (next_slot P j) (next_of of Q t)
      → Walked of P Q j t slot × (i ≤ slot)
  walked_to j t i slot i-inside first second fine is =
      let low : i ≤ next_slot P j = next_slot-low P p.first p.bytes-first j i first i-inside in
      let low' : i ≤ next_of of Q t = next_of-low p of t i second i-inside in
      let inside : next_slot P j ≤ P.n = next_slot-le P p.first p.bytes-first j in (
        record {
          inside = omega arith;
          first = cursor-to P j i slot first (omega arith) (omega arith);
          second = cursor_of-to of Q t i slot second (omega arith) (omega arith);
          fine = λ u h.
              elim (dec_le i u) [
                | yes d ↦ le-ltb max_distance (added_at of P Q u) (omega (
                  arith,
                  added-high P Q u of,
                  gap-small P p.first p.bytes-first j i u first d (omega arith),
                  addend-gap p of t i u small second d (omega arith),
                ))
                | no d ↦ fine u (omega arith)
              ];
          next = is;
        },
        omega arith,
      )

  pub walked_start : (slot : ℕ) → slot ≡ min (next_slot P 0) (next_of of Q 0) → Walked of P Q 0 0 slot
  walked_start slot is =
      (walked_to 0 0 0 slot (omega arith) (cursor-start P) (cursor_of-start of Q) (λ i h. absurd (omega arith)) is).0

  -- at such a slot the result is the sum
  walked-sum : (j t slot : ℕ) → Walked of P Q j t slot → slot < P.n
      → added_at of P Q slot ≡ value_of P slot + addend_at of Q slot
  walked-sum j t slot w here = sum of w.next
    where
      sum : (o : Addend) → slot ≡ min (next_slot P j) (next_of o Q t)
          → added_at o P Q slot ≡ value_of P slot + addend_at o Q slot
      sum Map is = refl
      sum (Number d) is =
          let at : slot ≡ next_slot P j = omega (arith, p.sizes) in
          let overflows : 255 ≤ value_of P slot = rw at (next-overflows P p.first j (omega arith)) in
          added-sum P Q slot (Number d) (omega (arith, added-low P Q slot (Number d)))

  -- the slot is fine, and both cursors are behind it
  pub walked_more : (j t slot j' t' slot' : ℕ) → Walked of P Q j t slot → slot < P.n
      → value_of P slot + addend_at of Q slot ≤ max_distance
      → Cursor P j' (slot + 1) → CursorOf of Q t' (slot + 1) → slot' ≡ min (next_slot P j') (next_of of Q t')
      → Walked of P Q j' t' slot' × (slot + 1 ≤ slot')
  walked_more j t slot j' t' slot' w here fits first second is =
      walked_to j' t' (slot + 1) slot' (omega arith) first second
      (λ i h.
      elim (dec_le slot i) [
        | yes d ↦ (let same : i ≡ slot = omega arith in
            rw same (le-ltb max_distance (added_at of P Q slot) (omega (arith, added-high P Q slot of))))
        | no d ↦ w.fine i (omega arith)
      ])
      is

  pub walked-found : (j t slot : ℕ) → Walked of P Q j t slot → slot < P.n
      → max_distance < value_of P slot + addend_at of Q slot → slot ≡ first_below (too_large of P Q) P.n
  walked-found j t slot w here large =
      sym (first_below-at (too_large of P Q) P.n slot here w.fine
      (lt-ltb max_distance (added_at of P Q slot) (omega (arith, walked-sum j t slot w here))))

  pub walked_none : (j t slot : ℕ) → Walked of P Q j t slot → P.n ≤ slot → P.n ≡ first_below (too_large of P Q) P.n
  walked_none j t slot w done =
      sym (first_below-none (too_large of P Q) P.n (λ i h. w.fine i (omega arith)))

-- ---- where the largest of both come to a distance

-- the entries before entry j are not above x, nor is what is stored inline
pub record MostOf (P : Parts) (j x : ℕ) : Type 0 where
  pub inline : 255 ≤ x
  pub entries : (t : ℕ) → t < j → P.distance t ≤ x

pub most-all : (P : Parts) → SoundParts P → ((i : ℕ) → P.byte i < 256) → (j x : ℕ) → MostOf P j x → P.k ≤ j
    → NoneAbove P.n (value_of P) x
most-all P sound bytes j x m all i h =
    slot_cases P sound bytes i h (λ small e. omega (arith, m.inline))
    (λ t ht at e w overflows. omega (arith, m.entries t (omega arith)))

pub none-large : (of : Addend) (P Q : Parts) (x y : ℕ) → NoneAbove P.n (value_of P) x
    → NoneAbove P.n (addend_at of Q) y
    → y ≤ max_distance - x → x ≤ max_distance → P.n ≡ first_below (too_large of P Q) P.n
none-large of P Q x y first second small fits =
    sym (first_below-none (too_large of P Q) P.n
    (λ i h. le-ltb max_distance (added_at of P Q i) (omega (arith, added-high P Q i of, first i h, second i h))))
