-- The sum is that of the first j entries.
use Rattle.std.proofs.Common.{ℕ}
use Rattle.pciv_bytes.specs.Ranges.{sum_from}
use Rattle.pciv_bytes.proofs.SumLaws.{Added}
use Rattle.pciv_format.specs.Check.{file_parts}
use Rattle.pciv_compare.specs.Weigh.{beyond_of}
use Rattle.pciv_compare.proofs.weigh.weigh_entries.Given as goal

abbrev pub invariant-loop-j : goal.invariant-loop-j
invariant-loop-j l =
    let f = λ (j : ℕ). beyond_of l.of ((file_parts l.file l.n l.k).distance j) in
    Added f l.k (sum_from f 0 l.k) l.j l.sum
