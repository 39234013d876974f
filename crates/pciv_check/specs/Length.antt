-- Which length refusal 5 asks for.
--   wrong_length whole have len    `have` bytes are wrong for a file of len: others than len, or, for the front of a
--                                 buffer, fewer
-- Laws are in proofs/RefusalLaws.antt. Axioms: none.
use Rattle.std.specs.Prelude.{ℕ, Bool, true, false, ltb}
use Rattle.pciv_format.specs.Check.{other_length}

abbrev pub wrong_length : Bool → ℕ → ℕ → Bool
wrong_length true = other_length
wrong_length false = ltb
