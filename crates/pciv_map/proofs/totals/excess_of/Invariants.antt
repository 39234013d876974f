-- Invariants of pciv_map::totals::excess_of: sum is that of the first j entries.
use Rattle.pciv_bytes.specs.Ranges.{sum_from}
use Rattle.pciv_bytes.proofs.SumLaws.{Added}
use Rattle.pciv_format.specs.Check.{file_parts}
use Rattle.pciv_format.proofs.EntryLaws.{excess}
use Rattle.pciv_map.proofs.totals.excess_of.Given as goal

abbrev pub invariant-loop-j : goal.invariant-loop-j
invariant-loop-j l =
    Added (excess (file_parts l.file l.n l.k)) l.k (sum_from (excess (file_parts l.file l.n l.k)) 0 l.k) l.j l.sum
