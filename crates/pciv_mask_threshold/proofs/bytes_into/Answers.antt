-- Proves pciv_mask_threshold::bytes_into: the limit, or t, is below 255.
use Rattle.std.proofs.Common.{ap, ◌∙◌, arith}
use Rattle.std.proofs.Math.Nat.{add-sub_cancel_left}
use Rattle.std.proofs.lemmas.List.Edits.{sets}
use borrow.Author.Tests.{ltb-true}
use Rattle.pciv_format.proofs.MapLaws.{primary-inside}
use Rattle.pciv_mask_threshold.proofs.SelectLaws.{bytes-limit, bytes-near}
use Rattle.pciv_mask_threshold.proofs.bytes_into.Goals as goal

pub slice_bounds-flags_into-end : goal.slice_bounds-flags_into-end
slice_bounds-flags_into-end c = primary-inside c.args.file.now c.args.n c.args.k c.requires.checked_map

pub slice_bounds-near_into-end : goal.slice_bounds-near_into-end
slice_bounds-near_into-end c = primary-inside c.args.file.now c.args.n c.args.k c.requires.checked_map

pub returns-in-Limit : goal.returns-in-Limit
returns-in-Limit c =
    let a = c.args in
    let w = c.in-Limit in
    rw w.is
    ((rw (add-sub_cancel_left 40 a.n) at c.flags_into.ensures)
    ∙ ap (sets a.out.now 0) (bytes-limit a.file.now a.n a.k c.requires.checked_map (λ i. (c.type_inv.file i).fits) w.limit w.negated
    (omega (arith, ltb-true w.limit 255 (rw w.is at c.requires.n_in_bounds.1)))))

pub returns-in-Near : goal.returns-in-Near
returns-in-Near c =
    let a = c.args in
    rw c.in-Near.is
    ((rw (add-sub_cancel_left 40 a.n) at c.near_into.ensures)
    ∙ ap (sets a.out.now 0) (bytes-near a.file.now a.n a.k c.requires.checked_map (λ i. (c.type_inv.file i).fits) c.in-Near.t
    (ltb-true c.in-Near.t 255 (rw c.in-Near.is at c.requires.n_in_bounds.1))))
