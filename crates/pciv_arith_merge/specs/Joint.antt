-- A walk over the overflow entries of two maps A and B, in the order of their slots.
--   head_of P j          the next entry of P, where the first j are passed: its slot and distance; none is at slot n
--   distance_in h s      the distance of an entry h at slot s, else 0
--   met_at, met_of A B j t    the next slot of either, the larger distance there, and how many entries of each have it
-- Laws are in proofs/JointLaws.antt. Axioms: none.
use Rattle.std.specs.Prelude.{ℕ, min, max, cond, ltb, eqb}
use Rattle.pciv_bytes.specs.Ranges.{flag}
use Rattle.pciv_format.specs.Parts.{Parts}
use Rattle.pciv_map.specs.Cursor.{next_slot}
use Rattle.pciv_arith_merge.specs.declared.joint.Head.{Head}
use Rattle.pciv_arith_merge.specs.declared.joint.Met.{Met}

unfoldable pub head_of : Parts → ℕ → Head
head_of P j = record { slot = next_slot P j; distance = cond (ltb j P.k) (P.distance j) 0 }

abbrev pub distance_in : Head → ℕ → ℕ
distance_in h s = cond (eqb h.slot s) h.distance 0

-- of two heads x and y at slot s
abbrev pub met_at : Head → Head → ℕ → Met
met_at x y s =
    record {
      slot = s;
      distance = max (distance_in x s) (distance_in y s);
      first = flag (eqb x.slot s);
      second = flag (eqb y.slot s);
    }

unfoldable pub met_of : Parts → Parts → ℕ → ℕ → Met
met_of A B j t = met_at (head_of A j) (head_of B t) (min (head_of A j).slot (head_of B t).slot)
