-- Invariants of pciv_map_lookup::list::locate_into: i bytes and numbers are written, and fewer than eight places wait for
-- their entries.
use Rattle.std.proofs.Common.{◌<◌}
use Rattle.pciv_format.specs.Check.{file_parts}
use Rattle.pciv_map_lookup.proofs.WaitLaws.{Walk}
use Rattle.pciv_map_lookup.proofs.list.locate_into.Given as goal

abbrev pub invariant-loop-i : goal.invariant-loop-i
invariant-loop-i l =
    record {
      few : l.waiting < 8;
      walk : Walk (file_parts l.file l.n l.k) l.slots l.fn.distances l.fn.entries l.distances l.entries l.places l.waiting l.i;
    }
