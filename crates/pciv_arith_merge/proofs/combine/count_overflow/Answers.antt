-- Proves pciv_arith_merge::combine::count_overflow: minimum and maximum have as many together as the two maps.
use Rattle.std.proofs.Common.{◌≡◌, ◌+◌, arith}
use Rattle.pciv_format.specs.Layout.{overflow_count}
use Rattle.pciv_arith_merge.specs.Merge.{result_of}
use Rattle.pciv_arith_merge.specs.declared.combine.MergeOp.TheVariants.{Maximum}
use Rattle.pciv_arith_merge.proofs.CombineLaws.{checked-sound}
use Rattle.pciv_arith_merge.proofs.BothLaws.{extremes-count}
use Rattle.pciv_arith_merge.proofs.combine.count_overflow.Goals as goal
use Rattle.pciv_arith_merge.proofs.combine.count_overflow.Goals.{After-count_both-in-Maximum}

both : (c : After-count_both-in-Maximum)
    → (let a = c.args in
    c.count_both-in-Maximum.result + overflow_count a.n (result_of Maximum a.a.now a.b.now a.n a.ka a.kb) ≡ a.ka + a.kb)
both c = omega (arith, extremes-count (checked-sound c.requires c.type_inv.a c.type_inv.b))

pub overflow_sub-result : goal.overflow_sub-result
overflow_sub-result c = omega (arith, both (goal.at.overflow_sub-result c).After-count_both-in-Maximum)

pub returns-in-Maximum : goal.returns-in-Maximum
returns-in-Maximum c =
    rw c.in-Maximum.is (omega (arith, both (goal.at.returns-in-Maximum c).After-count_both-in-Maximum))
