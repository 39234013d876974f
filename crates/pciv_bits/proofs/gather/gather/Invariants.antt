-- Invariants of pciv_bits::gather::gather: the first j lanes of each word are there.
use Rattle.std.proofs.Common.{◌≡◌, ◌+◌, length}
use Rattle.pciv_bits.specs.Flags.{is_met}
use Rattle.pciv_bits.proofs.GatherLaws.{Lanes}
use Rattle.pciv_bits.proofs.gather.gather.Given as goal

abbrev pub invariant-loop-j : goal.invariant-loop-j
invariant-loop-j l =
    record {
      long : length l.lanes ≡ 32;
      first : Lanes (is_met l.a l.test) l.i l.lanes 0 l.j;
      second : Lanes (is_met l.a l.test) (l.i + 64) l.lanes 16 l.j;
    }
