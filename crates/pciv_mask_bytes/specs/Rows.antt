-- The table that turns eight bits into eight bytes.
--   bit_rows    row b, place j is bit j of b, at place 8 b + j
-- Laws are in proofs/RowLaws.antt. Axioms: none.
use Rattle.std.specs.Prelude.{ℕ, ◌/◌, ◌%◌, List}
use Rattle.pciv_bytes.specs.Ranges.{table}
use Rattle.pciv_format.specs.Mask.{bit_at}

unfoldable pub bit_rows : List ℕ
bit_rows = table (λ (i : ℕ). bit_at (i / 8) (i % 8)) 0 2048
