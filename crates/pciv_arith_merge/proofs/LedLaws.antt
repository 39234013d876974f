-- A walk over the overflow entries of the first map, with a second cursor in those of the second.
--   before-entry, -later   what stands before a cursor: at the entry of a slot, and at a later slot
--   LedAt A B j t          where such a walk is: before entry j of A, and the entries of B before t are passed
--   led-start, led-next    where it begins, and one entry on
--   combined-along         a combination that shrinks is in overflow only where the first map is
-- Axioms: none.
use mathlib.Core.Path.{◌≡◌}
use Prim.Native.Nat.{ℕ, ◌+◌, ◌≤◌, ◌<◌}
use native.Mathlib.Numerals.{add-one}
use native.Mathlib.Omega.{arith}
use Rattle.pciv_format.specs.Parts.{Parts, lowest_slot, entry_of, value_of, SoundParts}
use Rattle.pciv_format.specs.declared.SlotOp.{SlotOp}
use Rattle.pciv_format.proofs.PartsLaws.{entry-good, value_of-inline}
use Rattle.pciv_format.proofs.EntryLaws.{entry_of-there}
use Rattle.pciv_build.proofs.AlongLaws.{Along}
use Rattle.pciv_arith_merge.specs.Merge.{combined_of, Shrinks, Before}

-- ---- what stands before a cursor

-- the entries before that of a slot in overflow are passed with the slot
pub before-entry : (P : Parts) (s : SoundParts P) (bytes : (i : ℕ) → P.byte i < 256) (i : ℕ) → i < P.n
    → P.byte i ≡ 255
    → Before P (i + 1) (entry_of P i)
before-entry P s bytes i inside full =
    let there = entry_of-there P s bytes i inside full in
    record {
      inside = omega (arith, there.0);
      low = omega (arith, (entry-good P s (entry_of P i) there.0).above, there.1);
    }

pub before-later : (P : Parts) (i i' t : ℕ) → i ≤ i' → Before P i t → Before P i' t
before-later P i i' t h b = record { inside = b.inside; low = omega (arith, b.low) }

-- ---- where a walk is

pub record LedAt (A B : Parts) (j t : ℕ) : Type 0 where
  pub inside : j ≤ A.k
  pub before : Before B (lowest_slot A j) t

pub led-start : (A B : Parts) → LedAt A B 0 0
led-start A B = record { inside = omega arith; before = record { inside = omega arith; low = omega arith } }

pub led-next : (A B : Parts) (j t : ℕ) → j < A.k → Before B (A.slot j + 1) t → LedAt A B (j + 1) t
led-next A B j t here before = record { inside = omega arith; before = rw (add-one j) before }

-- ---- a combination that shrinks

pub combined-along : (o : SlotOp) → Shrinks o → (A B : Parts) → SoundParts A → ((i : ℕ) → A.byte i < 256)
    → Along A (combined_of o A B)
combined-along o shrinks A B s bytes =
    record {
      sound = s;
      bytes = bytes;
      only = λ i inside small. omega (arith, shrinks (value_of A i) (value_of B i), value_of-inline A s i small);
    }
