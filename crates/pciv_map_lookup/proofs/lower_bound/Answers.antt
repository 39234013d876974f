-- Proves pciv_map_lookup::lower_bound: SearchLaws.antt has the reasoning on sorted numbers.
use Rattle.std.proofs.Common.{arith}
use Rattle.pciv_map_lookup.proofs.SearchLaws.{between-end}
use Rattle.pciv_map_lookup.proofs.lower_bound.Goals as goal

pub returns : goal.returns
returns c = between-end _ _ _ _ _ c.loop-len.invariant (omega arith)
