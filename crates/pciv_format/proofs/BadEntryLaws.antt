-- The test of an overflow entry, case by case (docs/FORMAT.md, "Refusals", 6).
--   wrong_entry-outside, -low, -inline    a slot of n or more, one below the least that it may have, an inline distance
--   wrong_entry-byte    none of these: the primary byte decides
--   wrong_entry-cong    the primary bytes of the n slots alone matter
--   bad_entry-is        entry j of P, by that test
-- Axioms: none.
use mathlib.Core.Path.{◌≡◌, refl}
use Prim.Native.Nat.{ℕ, ◌≤◌, ◌<◌}
use native.Mathlib.Omega.{arith}
use native.Mathlib.Decide.{dec_le}
use mathlib.Core.Bool.{true, not, ◌||◌}
use lib.Dec.{ltb, leb, eqb}
use borrow.Author.Tests.{lt-ltb, le-ltb, le-leb, lt-leb}
use Rattle.pciv_format.specs.Parts.{Parts, wrong_entry, lowest_slot, bad_entry}
use Rattle.pciv_format.proofs.PartsLaws.{or-true}

module _ (n : ℕ) (byte : ℕ → ℕ) (lowest slot distance : ℕ) where
  pub wrong_entry-outside : n ≤ slot → wrong_entry n byte lowest slot distance ≡ true
  unfolding wrong_entry
  wrong_entry-outside h = rw (le-leb n slot h)

  pub wrong_entry-low : slot < lowest → wrong_entry n byte lowest slot distance ≡ true
  unfolding wrong_entry
  wrong_entry-low h = rw (lt-ltb slot lowest h, or-true (leb n slot))

  pub wrong_entry-inline : distance < 255 → wrong_entry n byte lowest slot distance ≡ true
  unfolding wrong_entry
  wrong_entry-inline h = rw (lt-ltb distance 255 h, or-true (leb n slot || ltb slot lowest))

  pub wrong_entry-byte : slot < n → lowest ≤ slot → 255 ≤ distance
      → wrong_entry n byte lowest slot distance ≡ not (eqb (byte slot) 255)
  unfolding wrong_entry
  wrong_entry-byte inside above overflows =
      rw (lt-leb n slot inside, le-ltb slot lowest above, le-ltb distance 255 overflows)

pub wrong_entry-cong : (n : ℕ) (byte byte' : ℕ → ℕ) (lowest slot distance : ℕ) → ((i : ℕ) → i < n → byte i ≡ byte' i)
    → wrong_entry n byte lowest slot distance ≡ wrong_entry n byte' lowest slot distance
unfolding wrong_entry
wrong_entry-cong n byte byte' lowest slot distance same =
    elim (dec_le n slot)
    [ yes d ↦ rw (le-leb n slot d) | no d ↦ rw (same slot (omega arith)) ]

pub bad_entry-is : (P : Parts) (j : ℕ)
    → bad_entry P j ≡ wrong_entry P.n P.byte (lowest_slot P j) (P.slot j) (P.distance j)
unfolding bad_entry
bad_entry-is P j = refl
