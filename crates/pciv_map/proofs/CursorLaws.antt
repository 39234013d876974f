-- Laws of a cursor in the overflow entries of sound parts.
--   cursor-start                  before the first entry
--   next_slot-entry, next_slot-none    the next slot in overflow, or n
--   next_slot-le, next_slot-low     it is at most n, and not below where the cursor is
--   cursor-at, value-at           at a slot in overflow the cursor is at its entry, which has its distance
--   cursor-more, cursor-inline    past a slot in overflow, past one that is not
--   cursor-to, gap-small          up to the next slot in overflow; slots before it are inline
--   cursor-gap                    up to any slot, where no slot before it is in overflow
-- Axioms: none.
use mathlib.Core.Path.{◌≡◌, ap, ◌∙◌, sym}
use Prim.Native.Nat.{ℕ, suc, ◌+◌, ◌≤◌, ◌<◌}
use native.Mathlib.Numerals.{add-one}
use native.Mathlib.Omega.{arith}
use native.Mathlib.Decide.{dec_le}
use borrow.Author.Tests.{lt-ltb, le-ltb}
use Rattle.pciv_format.specs.Parts.{Parts, value_of, SoundParts}
use Rattle.pciv_format.proofs.PartsLaws.{entry-good, value_of-slot, value_of-inline}
use Rattle.pciv_map.specs.Cursor.{Cursor, next_slot}
use Rattle.pciv_format.proofs.EntryLaws.{gap-inline}

pub cursor-start : (P : Parts) → Cursor P 0 0
cursor-start P = record { few = omega arith; low = omega arith; high = λ more. omega arith }

pub next_slot-entry : (P : Parts) (j : ℕ) → j < P.k → next_slot P j ≡ P.slot j
next_slot-entry P j h = rw (lt-ltb j P.k h)

pub next_slot-none : (P : Parts) (j : ℕ) → P.k ≤ j → next_slot P j ≡ P.n
next_slot-none P j h = rw (le-ltb j P.k h)

pub cursor-to : (P : Parts) (j i s : ℕ) → Cursor P j i → i ≤ s → s ≤ next_slot P j → Cursor P j s
cursor-to P j i s c h₁ h₂ =
    record { few = c.few; low = omega (arith, c.low); high = λ more. omega (arith, next_slot-entry P j more) }

module _ (P : Parts) (sound : SoundParts P) (bytes : (i : ℕ) → P.byte i < 256) where
  pub next_slot-le : (j : ℕ) → next_slot P j ≤ P.n
  next_slot-le j =
      elim (dec_le P.k j) [
        | yes d ↦ omega (arith, next_slot-none P j d)
        | no d ↦ omega (arith, next_slot-entry P j (omega arith), (entry-good P sound j (omega arith)).inside)
      ]

  pub next_slot-low : (j i : ℕ) → Cursor P j i → i ≤ P.n → i ≤ next_slot P j
  next_slot-low j i c inside =
      elim (dec_le P.k j) [
        | yes d ↦ omega (arith, next_slot-none P j d)
        | no d ↦ omega (arith, next_slot-entry P j (omega arith), c.high (omega arith))
      ]

  pub gap-small : (j i u : ℕ) → Cursor P j i → i ≤ u → u < next_slot P j → value_of P u < 255
  gap-small j i u c h₁ h₂ =
      let small : P.byte u < 255 =
      gap-inline P sound bytes j u c.few (omega (arith, c.low)) (λ more. omega (arith, next_slot-entry P j more))
      (omega (arith, next_slot-le j)) in
      omega (arith, value_of-inline P sound u small)

  module _ (j s : ℕ) (c : Cursor P j s) (inside : s < P.n) where
    pub cursor-at : 255 ≤ P.byte s → (j < P.k) × (P.slot j ≡ s)
    cursor-at overflows =
        let small : (j < P.k → s < P.slot j) → P.byte s < 255 =
        λ before. gap-inline P sound bytes j s c.few c.low before inside in
        elim (dec_le P.k j) [
          | yes d ↦ absurd (omega (arith, small (λ more. absurd (omega arith))))
          | no d ↦ elim (dec_le (P.slot j) s) [
            | yes e ↦ (omega arith, omega (arith, c.high (omega arith)))
            | no e ↦ absurd (omega (arith, small (λ more. omega arith)))
          ]
        ]

    pub cursor-more : 255 ≤ P.byte s → Cursor P (j + 1) (s + 1)
    cursor-more overflows =
        let at = cursor-at overflows in
        rw (add-one j)
        (record {
          few = omega (arith, at.0);
          low = omega (arith, at.1);
          high = λ more. omega (arith, at.1, (entry-good P sound (suc j) more).above);
        })

    pub cursor-inline : P.byte s < 255 → Cursor P j (s + 1)
    cursor-inline small =
        record {
          few = c.few;
          low = omega (arith, c.low);
          high = λ more.
              elim (dec_le (P.slot j) s) [
                | yes e ↦ (let same : P.slot j ≡ s = omega (arith, c.high more) in
                    absurd (omega (arith, (entry-good P sound j more).marked, ap P.byte same)))
                | no e ↦ omega arith
              ];
        }

    -- the distance at s
    pub value-at : 255 ≤ P.byte s → P.distance j ≡ value_of P s
    value-at overflows = let at = cursor-at overflows in sym (value_of-slot P sound j at.0) ∙ ap (value_of P) at.1

  pub cursor-gap : (j i s : ℕ) → Cursor P j i → i ≤ s → ((u : ℕ) → i ≤ u → u < s → value_of P u < 255) → Cursor P j s
  cursor-gap j i s c h none =
      record {
        few = c.few;
        low = omega (arith, c.low);
        high = λ more.
            elim (dec_le s (P.slot j)) [
              | yes d ↦ d
              | no d ↦ absurd (omega (
                arith,
                none (P.slot j) (c.high more) (omega arith),
                value_of-slot P sound j more,
                (entry-good P sound j more).overflows,
              ))
            ];
      }
