-- What the header has shown before the parts of a file are looked at.
--   PartsInside b n k    n and k are within their limits, and the parts lie within the bytes b
-- Axioms: none.
use Rattle.std.specs.Prelude.{ℕ, ◌+◌, ◌*◌, ◌≤◌, List, length}
use Rattle.pciv_format.specs.Layout.{max_slots, index_len}

pub record PartsInside (b : List ℕ) (n k : ℕ) : Type 0 where
  pub small : n ≤ max_slots
  pub few : k ≤ n
  pub inside : 40 + n + 12 * k + 16 * index_len k ≤ length b
