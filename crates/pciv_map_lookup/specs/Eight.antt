-- Slots in overflow that stand at places of a list, and searches for eight of them among the overflow entries.
--   at_place g xs p                g of the slot that stands at place p of the list xs
--   OverflowPlace P xs b p        place p is below b, and the slot of xs there is in overflow
--   OverflowPlaces P xs b ps c    so it is for the first c places of ps
--   Holds P s lo len              the entry of slot s is among the len entries from lo on
--   Eight P xs ps los len         so it is for the slots at eight places, each from its number in los on
--   sets_at g ps d                 the list d with g p at each place p
-- Laws are in proofs/EightLaws.antt and proofs/WaitLaws.antt. Axioms: none.
use Rattle.std.specs.Prelude.{◌≡◌, List, [], ◌∷◌, ℕ, ◌+◌, ◌≤◌, ◌<◌, length, get_or, set}
use Rattle.pciv_format.specs.Parts.{Parts}

abbrev pub at_place : (ℕ → ℕ) → List ℕ → ℕ → ℕ
at_place g xs p = g (get_or xs p 0)

pub record OverflowPlace (P : Parts) (xs : List ℕ) (b p : ℕ) : Type 0 where
  pub before : p < b
  pub inside : get_or xs p 0 < P.n
  pub overflows : P.byte (get_or xs p 0) ≡ 255

pub record OverflowPlaces (P : Parts) (xs : List ℕ) (b : ℕ) (ps : List ℕ) (c : ℕ) : Type 0 where
  pub long : c ≤ length ps
  pub each : (q : ℕ) → q < c → OverflowPlace P xs b (get_or ps q 0)

pub record Holds (P : Parts) (s lo len : ℕ) : Type 0 where
  pub within : lo + len ≤ P.k
  pub entry : (j : ℕ) → j < P.k → P.slot j ≡ s → (lo ≤ j) × (j < lo + len)

pub record Eight (P : Parts) (xs ps los : List ℕ) (len : ℕ) : Type 0 where
  pub long : length los ≡ 8
  pub each : (q : ℕ) → q < 8 → Holds P (get_or xs (get_or ps q 0) 0) (get_or los q 0) len

unfoldable pub sets_at : (ℕ → ℕ) → List ℕ → List ℕ → List ℕ
sets_at g [] d = d
sets_at g (p ∷ ps) d = sets_at g ps (set d p (g p))
