-- Proves pciv_arith_merge::primary::put_primary: the slices are the primary arrays.
use Rattle.std.proofs.Common.{ap, ◌∙◌}
use Rattle.std.proofs.lemmas.List.Edits.{sets}
use native.Mathlib.Nat.{add-sub_cancel_left}
use Rattle.pciv_format.proofs.MapLaws.{primary-inside}
use Rattle.pciv_arith_merge.proofs.CombineLaws.{zipped-primary}
use Rattle.pciv_arith_merge.proofs.primary.put_primary.Goals as goal

pub slice_bounds-zip_into-end : goal.slice_bounds-zip_into-end
slice_bounds-zip_into-end c = primary-inside c.args.a.now c.args.n c.args.ka c.requires.checked_pair.first

pub slice_bounds-zip_into-end-2 : goal.slice_bounds-zip_into-end-2
slice_bounds-zip_into-end-2 c = primary-inside c.args.b.now c.args.n c.args.kb c.requires.checked_pair.second

pub returns : goal.returns
returns c =
    let a = c.args in
    (rw (add-sub_cancel_left 40 a.n) at c.zip_into.ensures)
    ∙ ap (sets a.out.now 40) (zipped-primary a.op a.a.now a.b.now a.n a.ka a.kb c.requires.checked_pair)
