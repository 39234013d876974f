-- No more bytes are counted than there are.
use Rattle.std.proofs.Common.{arith, length, ℕ}
use Rattle.std.proofs.Math.Dec.{leb}
use Rattle.pciv_bytes.specs.ByteAt.{byte_at}
use Rattle.pciv_bytes.proofs.SumLaws.{sum_from-flag-le}
use Rattle.pciv_passes.proofs.counts.count_from.Goals as goal

pub add_up-requires : goal.add_up-requires
add_up-requires c =
    omega (arith, sum_from-flag-le (λ (i : ℕ). leb c.args.x (byte_at c.args.a.now i)) 0 (length c.args.a.now))
