-- Proves pciv_mask_threshold::start_into.
use Rattle.std.proofs.Common.{ap, ◌∙◌}
use Rattle.std.proofs.Math.Nat.{add-sub_cancel_left}
use Rattle.std.proofs.lemmas.List.Edits.{sets}
use Rattle.pciv_format.proofs.MapLaws.{primary-inside}
use Rattle.pciv_mask_threshold.proofs.SelectLaws.{bytes-start}
use Rattle.pciv_mask_threshold.proofs.start_into.Goals as goal

pub slice_bounds-flags_into-end : goal.slice_bounds-flags_into-end
slice_bounds-flags_into-end c = primary-inside c.args.file.now c.args.n c.args.k c.requires.checked_map

pub returns-in-Near : goal.returns-in-Near
returns-in-Near c =
    let a = c.args in
    rw c.in-Near.is
    ((rw (add-sub_cancel_left 40 a.n) at c.flags_into.ensures)
    ∙ ap (sets a.out.now 0) (bytes-start a.file.now a.n a.k c.requires.checked_map (λ i. (c.type_inv.file i).fits) c.in-Near.field-0))
