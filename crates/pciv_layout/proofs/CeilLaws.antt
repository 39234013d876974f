-- Division rounded up: the library's `div_ceil` is the layout's `ceil_div`.
-- Axioms: none.
use Rattle.std.proofs.Common.{◌≡◌, ℕ, ◌<◌, arith}
use Rattle.std.proofs.Math.Nat.{div-eq_of_lt-le}
use Rattle.std.proofs.lemmas.Grind.{div_ceil_times}
use Rattle.std.specs.Int.{div_ceil}
use Rattle.pciv_bytes.specs.Ranges.{ceil_div}

pub ceil_div_is : (a b : ℕ) → 0 < b → ceil_div a b ≡ div_ceil a b
ceil_div_is a b h =
    let t = div_ceil_times a b h in
    div-eq_of_lt-le b (omega (arith, t)) (omega (arith, t))
