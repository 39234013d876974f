-- Proves pciv_arith_merge::primary::count_full_slots: the slices are the primary arrays.
use Rattle.std.proofs.Common.{◌∙◌}
use native.Mathlib.Nat.{add-sub_cancel_left}
use Rattle.pciv_format.proofs.MapLaws.{primary-inside}
use Rattle.pciv_arith_merge.proofs.CombineLaws.{full-primary}
use Rattle.pciv_arith_merge.proofs.primary.count_full_slots.Goals as goal

pub slice_bounds-count_full-end : goal.slice_bounds-count_full-end
slice_bounds-count_full-end c = primary-inside c.args.a.now c.args.n c.args.ka c.requires.first

pub slice_bounds-count_full-end-2 : goal.slice_bounds-count_full-end-2
slice_bounds-count_full-end-2 c = primary-inside c.args.b.now c.args.n c.args.kb c.requires.second

pub returns : goal.returns
returns c =
    let a = c.args in
    (rw (add-sub_cancel_left 40 a.n) at c.count_full.ensures)
    ∙ full-primary a.op a.a.now a.b.now a.n a.ka a.kb c.requires
