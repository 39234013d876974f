-- Signed differences that are put right entry by entry.
--   difference_at x y i    y i - x i, of the numbers x and y that two maps have at each slot
--   raised_at x y from i   255 more than that, of slot from + i;  lowered_at xs i   255 less than number i of a list
--   moved_by side z e      the difference z, where the distance of one side is e more
--   moved_from side P j c out   out after c entries of P, from entry j on, each at its slot
--   SmallFrom i n out     from slot i up to n, every number of out is small
-- Laws are in proofs/DifferencesLaws.antt. Axioms: none.
use Rattle.std.specs.Prelude.{ℕ, zero, suc, ◌+◌, ◌-◌, ◌^◌, ◌≤◌, ◌<◌, List, get_or, set, ℤ, pos, ◌+ℤ◌, ◌-ℤ◌}
use Rattle.std.specs.Int.Signed.{mag}
use Rattle.pciv_bytes.specs.ByteAt.{byte_at}
use Rattle.pciv_format.specs.Parts.{Parts}
use Rattle.pciv_arith_change.specs.declared.Side.{Side}
use Rattle.pciv_arith_change.specs.declared.Side.TheVariants.{Subtracted, Reduced}

abbrev pub difference_at : (ℕ → ℕ) → (ℕ → ℕ) → ℕ → ℤ
difference_at x y i = pos (y i) -ℤ pos (x i)

abbrev pub raised_at : (ℕ → ℕ) → (ℕ → ℕ) → ℕ → ℕ → ℕ
raised_at x y from i = 255 + y (from + i) - x (from + i)

abbrev pub lowered_at : List ℕ → ℕ → ℤ
lowered_at xs i = pos (byte_at xs i) -ℤ pos 255

abbrev pub moved_by : Side → ℤ → ℕ → ℤ
moved_by Subtracted z e = z -ℤ pos e
moved_by Reduced z e = z +ℤ pos e

-- one entry
abbrev pub moved_at : Side → Parts → ℕ → List ℤ → List ℤ
moved_at side P j out = set out (P.slot j) (moved_by side (get_or out (P.slot j) (pos 0)) (P.distance j - 255))

unfoldable pub moved_from : Side → Parts → ℕ → ℕ → List ℤ → List ℤ
moved_from side P j zero out = out
moved_from side P j (suc c) out = moved_from side P (suc j) c (moved_at side P j out)

abbrev pub SmallFrom : ℕ → ℕ → List ℤ → Type 0
SmallFrom i n out = (s : ℕ) → i ≤ s → s < n → mag (get_or out s (pos 0)) < 2 ^ 40
