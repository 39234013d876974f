-- Proves pciv_compare::weigh::weigh_entries.
use Rattle.std.proofs.Common.{ℕ, ap, ◌∙◌, arith}
use Rattle.pciv_bytes.proofs.SumLaws.{added-one, added-all}
use Rattle.pciv_format.proofs.MapLaws.{entry-inside}
use Rattle.pciv_compare.specs.Weigh.{beyond_of}
use Rattle.pciv_compare.proofs.WeighLaws.{entries-le}
use Rattle.pciv_compare.proofs.weigh.weigh_entries.Goals as goal

pub entry_distance-requires : goal.entry_distance-requires
entry_distance-requires c = entry-inside c.args.file.now c.args.n c.args.k c.requires c.loop-j.j c.loop-j-test.true

pub loop-j-preserved : goal.loop-j-preserved
loop-j-preserved c =
    rw (c.beyond-sum.ensures ∙ ap (λ (x : ℕ). beyond_of c.args.of x) c.entry_distance.ensures)
    (added-one c.loop-j.invariant c.loop-j-test.true)

pub overflow_add-sum : goal.overflow_add-sum
overflow_add-sum c =
    let a = c.args in
    omega (
      arith,
      (loop-j-preserved c).rest,
      entries-le a.of a.file.now (λ i. (c.type_inv.file i).fits) a.n a.k,
      c.requires.header.few,
      c.requires.header.small,
    )

pub returns : goal.returns
returns c = added-all c.loop-j.invariant c.loop-j-test.false
