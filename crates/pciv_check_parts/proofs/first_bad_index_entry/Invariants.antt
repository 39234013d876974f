-- Invariants of pciv_check_parts::first_bad_index_entry: the index entries below i are right.
use Rattle.std.proofs.Common.{◌≡◌, ℕ, ◌<◌, false}
use Rattle.pciv_format.specs.Check.{bad_index_entry}
use Rattle.pciv_check_parts.proofs.first_bad_index_entry.Given as goal

abbrev pub invariant-loop-i : goal.invariant-loop-i
invariant-loop-i l = (t : ℕ) → t < l.i → bad_index_entry l.file l.n l.k t ≡ false
