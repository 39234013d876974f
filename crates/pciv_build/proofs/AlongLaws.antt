-- A walk over the overflow entries of a map P, for a map v that is in overflow only where P is: it finds all slots of v
-- in overflow.
--   Along P v                   v is in overflow only where P is, and P is sound
--   counted-entry, -pass, -last    the slots of v in overflow, counted: at entry j of P one more, or not; all
--   entries_fit                 there is space for the entry of v at entry j of P
--   entries-entry, -pass        it is written, or there is none
--   entries-here                where an entry of v is left to write, so is one of P to pass
--   entries-past, -last         past the last entry of P no slot in overflow is left, and all entries are written
-- Axioms: none.
use mathlib.Core.Path.{◌≡◌, ap}
use Prim.Native.Nat.{ℕ, ◌+◌, ◌*◌, ◌≤◌, ◌<◌}
use native.Mathlib.Numerals.{add-one}
use native.Mathlib.Omega.{arith}
use native.Mathlib.Decide.{dec_le}
use mathlib.Core.List.{List, ◌++◌}
use lib.ListN.{length}
use lib.Seq.{sets}
use Rattle.pciv_bytes.specs.LittleEndian.{le}
use Rattle.pciv_format.specs.Layout.{overflow_count, overflow_part}
use Rattle.pciv_format.specs.Parts.{Parts, lowest_slot, SoundParts}
use Rattle.pciv_format.proofs.PartsLaws.{GoodEntry, entry-good}
use Rattle.pciv_format.proofs.EntryLaws.{gap-inline}
use Rattle.pciv_build.specs.Entries.{EntriesLeft}
use Rattle.pciv_build.proofs.EntriesLaws.{slots_from-end, entries-left, entries-space, entries-more}
use Rattle.pciv_build.proofs.EntriesLaws.{entries-gap, entries-skip, entries-end, Counted}
use Rattle.pciv_build.proofs.EntriesLaws.{counted-more, counted-gap, counted_skip, counted-end}

pub record Along (P : Parts) (v : ℕ → ℕ) : Type 0 where
  pub sound : SoundParts P
  pub bytes : (i : ℕ) → P.byte i < 256
  pub only : (i : ℕ) → i < P.n → P.byte i < 255 → v i < 255

module _ {P : Parts} {v : ℕ → ℕ} (a : Along P v) where
  gap : (j i : ℕ) → j ≤ P.k → lowest_slot P j ≤ i → (j < P.k → i < P.slot j) → i < P.n → v i < 255
  gap j i few low high inside = a.only i inside (gap-inline P a.sound a.bytes j i few low high inside)

  module _ (j : ℕ) (here : j < P.k) where
    good : GoodEntry P j
    good = entry-good P a.sound j here

    before-slot : (i : ℕ) → lowest_slot P j ≤ i → i < P.slot j → v i < 255
    before-slot i low high = gap j i (omega arith) low (λ more. high) (omega (arith, good.inside))

    counted-slot : {c : ℕ} → Counted P.n v (lowest_slot P j) c → Counted P.n v (P.slot j) c
    counted-slot e = counted-gap e (P.slot j) good.above (omega (arith, good.inside)) before-slot

    pub counted-entry : {c : ℕ} → Counted P.n v (lowest_slot P j) c → 255 ≤ v (P.slot j)
        → Counted P.n v (lowest_slot P (j + 1)) (c + 1)
    counted-entry e overflows = rw (add-one j) (counted-more (counted-slot e) good.inside overflows)

    pub counted-pass : {c : ℕ} → Counted P.n v (lowest_slot P j) c → v (P.slot j) < 255
        → Counted P.n v (lowest_slot P (j + 1)) c
    counted-pass e inline = rw (add-one j) (counted_skip (counted-slot e) good.inside inline)

    module _ {d₀ : List ℕ} {p₀ : ℕ} {d : List ℕ} {p : ℕ} (e : EntriesLeft P.n v d₀ p₀ (lowest_slot P j) d p) where
      entries-slot : EntriesLeft P.n v d₀ p₀ (P.slot j) d p
      entries-slot = entries-gap e (P.slot j) good.above (omega (arith, good.inside)) before-slot

      pub entries_fit : 255 ≤ v (P.slot j) → p + 12 ≤ length d
      entries_fit overflows = entries-space entries-slot good.inside overflows

      pub entries-entry : 255 ≤ v (P.slot j) → (slot x : ℕ) (d' : List ℕ) (p' : ℕ) → slot ≡ P.slot j
          → x ≡ v (P.slot j)
          → d' ≡ sets d p (le 8 slot ++ le 4 x) → p' ≡ p + 12 → EntriesLeft P.n v d₀ p₀ (lowest_slot P (j + 1)) d' p'
      entries-entry overflows slot x d' p' at is put next =
          rw (add-one j) (entries-more entries-slot good.inside overflows x d' p' is (rw at at put) next)

      pub entries-pass : v (P.slot j) < 255 → EntriesLeft P.n v d₀ p₀ (lowest_slot P (j + 1)) d p
      entries-pass inline = rw (add-one j) (entries-skip entries-slot good.inside inline)

  -- after the last entry
  module _ (j : ℕ) (inside : j ≤ P.k) (last : P.k ≤ j) where
    past-slot : (i : ℕ) → lowest_slot P j ≤ i → i < P.n → v i < 255
    past-slot i low high = gap j i inside low (λ more. absurd (omega arith)) high

    pub counted-last : {c : ℕ} → Counted P.n v (lowest_slot P j) c → c ≡ overflow_count P.n v
    counted-last e = counted-end (counted-gap e P.n e.inside (omega arith) past-slot) (omega arith)

    pub entries-past : {d₀ : List ℕ} {p₀ : ℕ} {d : List ℕ} {p : ℕ} → EntriesLeft P.n v d₀ p₀ (lowest_slot P j) d p
        → EntriesLeft P.n v d₀ p₀ P.n d p
    entries-past e = entries-gap e P.n e.inside (omega arith) past-slot

    pub entries-last : {d₀ : List ℕ} {p₀ : ℕ} {d : List ℕ} {p : ℕ} → EntriesLeft P.n v d₀ p₀ (lowest_slot P j) d p
        → d ≡ sets d₀ p₀ (overflow_part P.n v)
    entries-last e = entries-end (entries-past e) (omega arith)

  -- where an entry is left to write, so is one of P to pass
  pub entries-here : (j : ℕ) → j ≤ P.k → {d₀ : List ℕ} {p₀ : ℕ} {d : List ℕ} {p : ℕ}
      → EntriesLeft P.n v d₀ p₀ (lowest_slot P j) d p → p < p₀ + 12 * overflow_count P.n v → j < P.k
  entries-here j inside e more =
      elim (dec_le P.k j) [
        | yes last ↦ (let none = slots_from-end P.n v P.n (omega arith) in
            absurd (omega (arith, (entries-left (entries-past j inside last e) more).0, ap length none)))
        | no d ↦ omega arith
      ]
