-- Invariants of pciv_map_lookup::eight::entries8: each of the eight entries is among the len that are left to its search.
-- Their number falls.
use Rattle.std.proofs.Common.{◌<◌}
use Rattle.pciv_format.specs.Check.{file_parts}
use Rattle.pciv_map_lookup.specs.Eight.{Eight}
use Rattle.pciv_map_lookup.proofs.eight.entries8.Given as goal

abbrev pub invariant-loop-len : goal.invariant-loop-len
invariant-loop-len l =
    record { some : 0 < l.len; eight : Eight (file_parts l.file l.n l.k) l.slots l.places l.first l.len }

abbrev pub decreases-loop-len : goal.decreases-loop-len
decreases-loop-len l = l.len
