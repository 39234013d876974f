-- What the passes over the primary bytes and the overflow entries of the frames leave at each slot. A byte is taken
-- less 1, so that 0 becomes 255 and loses against every other byte.
--   less_one x            byte x less 1, 255 for 0
--   lowered_byte m x      the smaller of the byte m and x less 1
--   raised_byte m         the distance of a byte that is less by 1; the largest one for byte 255
--   byte_step i m b       m with the byte that frame b has at slot i
--   nearest_byte fs i     the nearest distance at slot i, by the bytes of the frames fs alone
--   lowered_to P i x      the smaller of x and the distance that slot i has in overflow, if it is there
--   entry_step n i x b    the same for frame b of n slots
--   Changed g n old new  the first n elements of a list are changed by g, the others stay
-- Laws are in proofs/BlockLaws.antt, LoweredLaws.antt, ChangedLaws.antt and PassesLaws.antt. Axioms: none.
use Rattle.std.specs.Prelude.{◌≡◌, ℕ, ◌+◌, ◌-◌, ◌<◌, ◌≤◌, min, cond, List, length, ◌==◌}
use mathlib.Core.List.{foldl}
use Rattle.pciv_format.specs.Layout.{max_distance, at}
use Rattle.pciv_format.specs.Parts.{Parts, value_of}
use Rattle.pciv_format.specs.Check.{k_field, file_parts}

-- ---- the bytes

abbrev pub less_one : ℕ → ℕ
less_one x = cond (x == 0) 255 (x - 1)

unfoldable pub lowered_byte : ℕ → ℕ → ℕ
lowered_byte m x = min m (less_one x)

unfoldable pub raised_byte : ℕ → ℕ
raised_byte m = cond (m == 254) max_distance (cond (m == 255) 0 (m + 1))

-- the primary bytes stand behind the header
abbrev pub byte_step : ℕ → ℕ → List ℕ → ℕ
byte_step i m b = lowered_byte m (at b (40 + i))

abbrev pub nearest_byte : List (List ℕ) → ℕ → ℕ
nearest_byte fs i = raised_byte (foldl (byte_step i) 255 fs)

-- ---- the overflow entries

unfoldable pub lowered_to : Parts → ℕ → ℕ → ℕ
lowered_to P i x = cond (P.byte i == 255) (min x (value_of P i)) x

abbrev pub entry_step : ℕ → ℕ → ℕ → List ℕ → ℕ
entry_step n i x b = lowered_to (file_parts b n (k_field b)) i x

-- ---- a list changed in place

pub record Changed (g : ℕ → ℕ → ℕ) (n : ℕ) (old new : List ℕ) : Type 0 where
  pub same : length new ≡ length old
  pub each : (i : ℕ) → i < n → at new i ≡ g i (at old i)
  pub rest : (i : ℕ) → n ≤ i → at new i ≡ at old i
