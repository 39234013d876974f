-- What was found, or what the bytes that are left have, is what all of them have.
use Rattle.std.proofs.Common.{◌≡◌, ℕ, ◌+◌, ◌-◌, get_or, eqb, ◌||◌}
use Rattle.pciv_bytes.specs.Any.{any_from}
use Rattle.pciv_bytes.proofs.find.any_byte.Given as goal

abbrev pub invariant-loop-y : goal.invariant-loop-y
invariant-loop-y l =
    let is = λ (j : ℕ). eqb (get_or l.fn.a j 0) l.x in
    let i = l.from + l.y-index in
    (l.found || any_from is i (l.to - i)) ≡ any_from is l.from (l.to - l.from)
