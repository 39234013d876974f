-- The sum is that of the first j entries of the first map, and the entries of the second before t are passed.
use Rattle.std.proofs.Common.{ℕ}
use Rattle.pciv_bytes.specs.Ranges.{sum_from}
use Rattle.pciv_bytes.proofs.SumLaws.{Added}
use Rattle.pciv_format.specs.Check.{file_parts}
use Rattle.pciv_arith_merge.proofs.LedLaws.{LedAt}
use Rattle.pciv_compare.specs.Weigh.{beyond_of, shared_at}
use Rattle.pciv_compare.proofs.weigh.weigh_shared.Given as goal

abbrev pub invariant-loop-j : goal.invariant-loop-j
invariant-loop-j l =
    let A = file_parts l.a l.n l.ka in
    let B = file_parts l.b l.n l.kb in
    let f = λ (j : ℕ). beyond_of l.of (shared_at A B j) in
    record { cursor : LedAt A B l.j l.t; added : Added f l.ka (sum_from f 0 l.ka) l.j l.sum }
