-- What is added to the distances of a map. P is the map, Q the second map.
--   addend_at of Q i         what is to be added at slot i: the distance of Q there, or one number
--   added_at of P Q i        the distance of the result at slot i; a number is added to non-zero distances alone
--   too_large of P Q i       it is above what a file can hold (refusal 11)
--   CursorOf, TakenOf, next_of    a cursor in the entries of Q; nothing is asked of it where a number is added
--   Small of                a number that is added is at most what a shift can be by
-- Laws are in proofs/. Axioms: none.
use Rattle.std.specs.Prelude.{◌≡◌, ℕ, ◌+◌, ◌^◌, ◌<◌, Bool, cond, ltb, eqb}
use Rattle.pciv_format.specs.Layout.{max_distance}
use Rattle.pciv_format.specs.Parts.{Parts, value_of}
use Rattle.pciv_map.specs.Cursor.{Cursor, next_slot}
use Rattle.pciv_map.specs.declared.cursor.Taken.{Taken}
use Rattle.pciv_arith_add.specs.declared.addend.Addend.{Addend}
use Rattle.pciv_arith_add.specs.declared.addend.Addend.TheVariants.{Map, Number}

abbrev pub addend_at : Addend → Parts → ℕ → ℕ
addend_at Map Q i = value_of Q i
addend_at (Number d) Q i = d

abbrev pub added_at : Addend → Parts → Parts → ℕ → ℕ
added_at Map P Q i = value_of P i + value_of Q i
added_at (Number d) P Q i = cond (eqb (value_of P i) 0) 0 (value_of P i + d)

abbrev pub too_large : Addend → Parts → Parts → ℕ → Bool
too_large of P Q i = ltb max_distance (added_at of P Q i)

-- ---- walks

abbrev pub CursorOf : Addend → Parts → ℕ → ℕ → Type 0
CursorOf Map Q t i = Cursor Q t i
CursorOf (Number d) Q t i = Unit {0}

abbrev pub next_of : Addend → Parts → ℕ → ℕ
next_of Map Q t = next_slot Q t
next_of (Number d) Q t = Q.n

pub record TakenOf (of : Addend) (Q : Parts) (slot : ℕ) (r : Taken) : Type 0 where
  pub is : r.distance ≡ addend_at of Q slot
  pub next : CursorOf of Q r.next (slot + 1)

abbrev pub Small : Addend → Type 0
Small Map = Unit {0}
Small (Number d) = d < 2 ^ 31
