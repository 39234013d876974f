-- count and what the set bits that are left pick make the whole.
use Rattle.std.proofs.Common.{◌≡◌, ◌+◌, length}
use Rattle.pciv_bytes.specs.ByteAt.{byte_is}
use Rattle.pciv_mask_increment.specs.Raised.{picked, SetBelow}
use Rattle.pciv_mask_increment.proofs.count_set.Given as goal

abbrev pub invariant-loop-rest : goal.invariant-loop-rest
invariant-loop-rest l =
    SetBelow (length l.bytes) l.from l.rest
    × (l.count + picked (byte_is l.bytes 254) l.from 64 l.rest ≡ picked (byte_is l.bytes 254) l.from 64 l.word)

abbrev pub decreases-loop-rest : goal.decreases-loop-rest
decreases-loop-rest l = l.rest
