-- Invariants of pciv_map_lookup::lower_bound: keys before lo are below the key that is looked for, and keys from
-- lo + len on are not. The length falls.
use Rattle.std.proofs.Common.{◌+◌}
use Rattle.pciv_map_lookup.specs.Lookup.{key_at}
use Rattle.pciv_map_lookup.proofs.SearchLaws.{Between}
use Rattle.pciv_map_lookup.proofs.lower_bound.Given as goal

abbrev pub invariant-loop-len : goal.invariant-loop-len
invariant-loop-len l = Between (key_at l.file l.base l.stride) l.key l.count l.lo (l.lo + l.len)

abbrev pub decreases-loop-len : goal.decreases-loop-len
decreases-loop-len l = l.len
