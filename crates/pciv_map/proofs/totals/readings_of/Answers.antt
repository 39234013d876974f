-- Proves pciv_map::totals::readings_of: the bytes that are 0 and those that are not are all bytes; a map has as
-- many readings as its primary bytes.
use Rattle.std.proofs.Common.{arith}
use Rattle.pciv_format.proofs.ReadingsLaws.{readings-rest, readings-of-primary}
use Rattle.pciv_map.proofs.totals.readings_of.Goals as goal

pub overflow_sub-result : goal.overflow_sub-result
overflow_sub-result c = omega (arith, readings-rest c.args.bytes.now)

pub returns : goal.returns
returns c =
    let p = c.args.bytes.now in
    let rest = readings-rest p in
    record { count = omega (arith, rest); every = λ xs l e. omega (arith, rest, readings-of-primary p xs l e) }
