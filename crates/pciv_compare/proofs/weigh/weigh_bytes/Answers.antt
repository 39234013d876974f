-- Proves pciv_compare::weigh::weigh_bytes: the parts that are passed are the primary arrays.
use native.Mathlib.Nat.{add-sub_cancel_left}
use Rattle.pciv_format.proofs.MapLaws.{primary-inside}
use Rattle.pciv_compare.proofs.WeighLaws.{weighed-bytes}
use Rattle.pciv_compare.proofs.weigh.weigh_bytes.Goals as goal

pub slice_bounds-add_extremes-end : goal.slice_bounds-add_extremes-end
slice_bounds-add_extremes-end c = primary-inside c.args.a.now c.args.n c.args.ka c.requires.first

pub slice_bounds-add_extremes-end-2 : goal.slice_bounds-add_extremes-end-2
slice_bounds-add_extremes-end-2 c = primary-inside c.args.b.now c.args.n c.args.kb c.requires.second

pub returns : goal.returns
returns c =
    let a = c.args in
    weighed-bytes a.a.now a.b.now a.n a.ka a.kb c.requires.first c.requires.second a.of
    c.add_extremes.result (rw (add-sub_cancel_left 40 a.n) at c.add_extremes.ensures)
