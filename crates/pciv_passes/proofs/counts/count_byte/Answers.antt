-- There are no more bytes x than bytes.
use Rattle.std.proofs.Common.{arith, length}
use Rattle.pciv_bytes.proofs.SumLaws.{sum_from-byte_is-le}
use Rattle.pciv_passes.proofs.counts.count_byte.Goals as goal

pub add_up-requires : goal.add_up-requires
add_up-requires c = omega (arith, sum_from-byte_is-le c.args.a.now c.args.x 0 (length c.args.a.now))
