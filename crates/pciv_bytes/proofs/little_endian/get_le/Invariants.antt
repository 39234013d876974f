-- x is the number of the first i bytes.
use Rattle.std.proofs.Common.{◌≡◌}
use Rattle.pciv_bytes.specs.LittleEndian.{get}
use Rattle.pciv_bytes.proofs.little_endian.get_le.Given as goal

abbrev pub invariant-loop-i : goal.invariant-loop-i
invariant-loop-i l = l.x ≡ get l.i l.b l.at
