-- A cursor in the overflow entries of a map.
--   Cursor P j i       the entries before entry j have slots below i, the others have slots from i on
--   TakenAt P slot r   r is the distance at a slot, and the cursor behind it
--   next_slot P j       the slot of entry j; n where there is none
-- Laws are in proofs/CursorLaws.antt. Axioms: none.
use Rattle.std.specs.Prelude.{◌≡◌, ℕ, ◌+◌, ◌≤◌, ◌<◌, cond, ltb}
use Rattle.pciv_format.specs.Parts.{Parts, lowest_slot, value_of}
use Rattle.pciv_map.specs.declared.cursor.Taken.{Taken}

pub record Cursor (P : Parts) (j i : ℕ) : Type 0 where
  pub few : j ≤ P.k
  pub low : lowest_slot P j ≤ i
  pub high : j < P.k → i ≤ P.slot j

pub record TakenAt (P : Parts) (slot : ℕ) (r : Taken) : Type 0 where
  pub is : r.distance ≡ value_of P slot
  pub next : Cursor P r.next (slot + 1)

abbrev pub next_slot : Parts → ℕ → ℕ
next_slot P j = cond (ltb j P.k) (P.slot j) P.n
