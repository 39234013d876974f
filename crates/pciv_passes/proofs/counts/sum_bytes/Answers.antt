-- The sum is at most 255 for each byte.
use Rattle.std.proofs.Common.{arith, length}
use Rattle.pciv_bytes.proofs.SumLaws.{sum_from-byte_at-le}
use Rattle.pciv_passes.proofs.counts.sum_bytes.Goals as goal

pub add_up-requires : goal.add_up-requires
add_up-requires c =
    omega (arith, sum_from-byte_at-le c.args.a.now (λ j. (c.type_inv.a j).fits) 0 (length c.args.a.now))
