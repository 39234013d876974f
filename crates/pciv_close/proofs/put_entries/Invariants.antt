-- The entries from the next one on are left to write.
use Rattle.std.proofs.Common.{◌≡◌, ◌+◌, ◌*◌, length}
use Rattle.pciv_format.specs.Layout.{at}
use Rattle.pciv_close.specs.Close.{EntriesLeft}
use Rattle.pciv_close.proofs.put_entries.Given as goal

abbrev pub invariant-loop-slot : goal.invariant-loop-slot
invariant-loop-slot l =
    record {
      place : l.place ≡ l.start + 12 * length l.yielded;
      left : EntriesLeft (at l.slots) (at l.distances) (length l.slots) l.start l.initial.out (length l.yielded) l.out;
    }
