-- Proves pciv_map::totals::excess_of. No addition overflows, since each gives at most the sum of all, which is below
-- 2 ^ 52.
use Rattle.std.proofs.Common.{arith}
use Rattle.pciv_bytes.proofs.SumLaws.{added-one, added-all}
use Rattle.pciv_format.specs.Check.{file_parts}
use Rattle.pciv_format.proofs.PartsLaws.{entry-good}
use Rattle.pciv_format.proofs.MapLaws.{entry-inside, excess_lt}
use Rattle.pciv_map.proofs.totals.excess_of.Goals as goal
use Rattle.pciv_map.proofs.totals.excess_of.Goals.{After-entry_distance}

pub entry_distance-requires : goal.entry_distance-requires
entry_distance-requires c =
    entry-inside c.args.file.now c.args.n c.args.k c.requires c.loop-j.j (omega arith)

pub overflow_sub-sum : goal.overflow_sub-sum
overflow_sub-sum c =
    let a = c.args in
    omega (arith, (entry-good (file_parts a.file.now a.n a.k) c.requires.parts c.loop-j.j (omega arith)).overflows)

pub loop-j-preserved : goal.loop-j-preserved
loop-j-preserved c = rw c.entry_distance.ensures (added-one c.loop-j.invariant (omega arith))

pub overflow_add-sum : goal.overflow_add-sum
overflow_add-sum c =
    let a = c.args in
    omega (
      arith,
      excess_lt a.file.now a.n a.k c.requires (λ i. (c.type_inv.file i).fits),
      (loop-j-preserved c).rest,
    )

pub returns : goal.returns
returns c = added-all c.loop-j.invariant (omega arith)
