-- Proves pciv_arith_add::put::count_added: in each case the results 255 are counted.
use Rattle.std.proofs.Common.{◌∙◌}
use native.Mathlib.Nat.{add-sub_cancel_left}
use Rattle.pciv_format.proofs.MapLaws.{primary-inside}
use Rattle.pciv_arith_add.proofs.AddendLaws.{checked-maps}
use Rattle.pciv_arith_add.proofs.PutLaws.{count_map, count-number}
use Rattle.pciv_arith_add.proofs.put.count_added.Goals as goal

pub slice_bounds-count_full-end : goal.slice_bounds-count_full-end
slice_bounds-count_full-end c = primary-inside c.args.a.now c.args.n c.args.ka c.requires.first

pub slice_bounds-count_full-end-in-Map : goal.slice_bounds-count_full-end-in-Map
slice_bounds-count_full-end-in-Map c = primary-inside c.args.b.now c.args.n c.args.kb c.requires.second

pub slice_bounds-count_from-end : goal.slice_bounds-count_from-end
slice_bounds-count_from-end c = primary-inside c.args.a.now c.args.n c.args.ka c.requires.first

pub returns-in-Map : goal.returns-in-Map
returns-in-Map c =
    rw c.in-Map.is
    ((rw (add-sub_cancel_left 40 c.args.n) at c.count_full.ensures)
    ∙ count_map (checked-maps c.requires c.type_inv.a c.type_inv.b))

pub returns-in-Number : goal.returns-in-Number
returns-in-Number c =
    rw c.in-Number.is
    ((rw (add-sub_cancel_left 40 c.args.n, c.first_full.ensures) at c.count_from.ensures)
    ∙ count-number (checked-maps c.requires c.type_inv.a c.type_inv.b) c.in-Number.d)
