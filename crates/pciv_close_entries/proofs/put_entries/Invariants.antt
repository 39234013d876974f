-- The entries from j on are left to write.
use Rattle.std.proofs.Common.{length}
use Rattle.pciv_format.specs.Layout.{at}
use Rattle.pciv_close.specs.Close.{EntriesLeft}
use Rattle.pciv_close_entries.specs.Passes.{slots_of, distances_of}
use Rattle.pciv_close_entries.proofs.put_entries.Given as goal

abbrev pub invariant-loop-j : goal.invariant-loop-j
invariant-loop-j l =
    EntriesLeft (at (slots_of l.entries)) (at (distances_of l.entries)) (length l.entries) l.start l.initial.out l.j l.out
