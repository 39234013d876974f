-- Proves pciv_map::totals::sum_of: what the two passes add up to is the sum of all distances, which fits.
use Rattle.std.proofs.Common.{ℕ, ◌+◌, ap₂, ◌∙◌, arith}
use Rattle.std.proofs.Math.Nat.{add-sub_cancel_left}
use Rattle.pciv_format.proofs.MapLaws.{primary-inside, sum-primary, sum_lt}
use Rattle.pciv_map.proofs.totals.sum_of.Goals as goal

pub slice_bounds-sum_bytes-end : goal.slice_bounds-sum_bytes-end
slice_bounds-sum_bytes-end c = primary-inside c.args.file.now c.args.n c.args.k c.requires

pub returns : goal.returns
returns c =
    let a = c.args in
    let primary = rw (add-sub_cancel_left 40 a.n) at c.sum_bytes.ensures in
    ap₂ (λ (x y : ℕ). x + y) primary c.excess_of.ensures
    ∙ sum-primary a.file.now a.n a.k c.requires (λ i. (c.type_inv.file i).fits)

pub overflow_add-result : goal.overflow_add-result
overflow_add-result c =
    let a = c.args in
    omega (arith, returns c, sum_lt a.file.now a.n a.k c.requires (λ i. (c.type_inv.file i).fits))
