-- Proves pciv_arith_add::put::put_primary: in each case the results are the primary bytes.
use Rattle.std.proofs.Common.{ap, ◌∙◌}
use Rattle.std.proofs.lemmas.List.Edits.{sets}
use native.Mathlib.Nat.{add-sub_cancel_left}
use Rattle.pciv_format.proofs.MapLaws.{primary-inside}
use Rattle.pciv_arith_add.proofs.AddendLaws.{checked-maps}
use Rattle.pciv_arith_add.proofs.PutLaws.{primary-map, primary-number}
use Rattle.pciv_arith_add.proofs.put.put_primary.Goals as goal

pub slice_bounds-zip_into-end : goal.slice_bounds-zip_into-end
slice_bounds-zip_into-end c = primary-inside c.args.a.now c.args.n c.args.ka c.requires.checked_pair.first

pub slice_bounds-zip_into-end-in-Map : goal.slice_bounds-zip_into-end-in-Map
slice_bounds-zip_into-end-in-Map c = primary-inside c.args.b.now c.args.n c.args.kb c.requires.checked_pair.second

pub slice_bounds-map_into-end : goal.slice_bounds-map_into-end
slice_bounds-map_into-end c = primary-inside c.args.a.now c.args.n c.args.ka c.requires.checked_pair.first

pub returns-in-Map : goal.returns-in-Map
returns-in-Map c =
    rw c.in-Map.is
    ((rw (add-sub_cancel_left 40 c.args.n) at c.zip_into.ensures)
    ∙ ap (sets c.args.out.now 40) (primary-map (checked-maps c.requires.checked_pair c.type_inv.a c.type_inv.b)))

pub returns-in-Number : goal.returns-in-Number
returns-in-Number c =
    rw c.in-Number.is
    ((rw (add-sub_cancel_left 40 c.args.n, c.primary_byte.ensures) at c.map_into.ensures)
    ∙ ap (sets c.args.out.now 40)
    (primary-number (checked-maps c.requires.checked_pair c.type_inv.a c.type_inv.b) c.in-Number.d))
