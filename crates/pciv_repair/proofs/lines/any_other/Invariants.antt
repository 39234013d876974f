-- What was found, or is found from i on, is what is found in all.
use Rattle.std.proofs.Common.{◌≡◌, ℕ, ◌-◌, not, ◌||◌, get_or, eqb}
use Rattle.pciv_bytes.specs.Any.{any_from}
use Rattle.pciv_repair.proofs.lines.any_other.Given as goal

abbrev pub invariant-loop-i : goal.invariant-loop-i
invariant-loop-i l =
    let other = λ (j : ℕ). not (eqb (get_or l.a j 0) (get_or l.b j 0)) in
    (l.found || any_from other l.i (l.to - l.i)) ≡ any_from other l.from (l.to - l.from)
