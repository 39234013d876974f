-- Proves pciv_compare::weigh::weigh_shared.
use Rattle.std.proofs.Common.{ℕ, ap, ◌∙◌, arith}
use Rattle.pciv_bytes.proofs.SumLaws.{added-one, added-all}
use Rattle.pciv_format.specs.Check.{file_parts}
use Rattle.pciv_arith_merge.proofs.LedLaws.{led-next}
use Rattle.pciv_compare.specs.Weigh.{beyond_of}
use Rattle.pciv_compare.proofs.WeighLaws.{combined-shared, shared-le}
use Rattle.pciv_compare.proofs.weigh.weigh_shared.Goals as goal

pub loop-j-preserved : goal.loop-j-preserved
loop-j-preserved c =
    let a = c.args in
    let A = file_parts a.a.now a.n a.ka in
    let B = file_parts a.b.now a.n a.kb in
    let here = c.loop-j-test.true in
    let r = c.combine_entry-found.result in
    let found = c.combine_entry-found.ensures in
    let is = combined-shared A B c.requires.first.parts c.loop-j.j here r found in
    record {
      cursor = led-next A B c.loop-j.j r.next here found.before;
      added = rw (c.beyond-sum.ensures ∙ ap (λ (x : ℕ). beyond_of a.of x) is) (added-one c.loop-j.invariant.added here);
    }

pub overflow_add-sum : goal.overflow_add-sum
overflow_add-sum c =
    let a = c.args in
    omega (
      arith,
      (loop-j-preserved c).added.rest,
      shared-le a.of a.a.now (λ i. (c.type_inv.a i).fits) a.n a.ka (file_parts a.b.now a.n a.kb),
      c.requires.first.header.few,
      c.requires.first.header.small,
    )

pub returns : goal.returns
returns c = added-all c.loop-j.invariant.added c.loop-j-test.false
