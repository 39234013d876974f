-- Proves pciv_map::scan::scan_into: pciv_format, PatchLaws.antt, has the reasoning about lists.
use Rattle.std.proofs.Common.{◌≡◌, ◌+◌, ◌*◌, ◌≤◌, length, ◌∙◌, arith}
use Rattle.std.proofs.Math.Nat.{add-sub_cancel_left}
use Rattle.pciv_format.specs.Check.{file_parts}
use Rattle.pciv_format.proofs.PartsLaws.{entry-good}
use Rattle.pciv_format.proofs.PatchLaws.{plain, over-more, over-end}
use Rattle.pciv_format.proofs.MapLaws.{entry-inside, primary-inside, primary-over}
use Rattle.pciv_map.proofs.scan.scan_into.Goals as goal
use Rattle.pciv_map.proofs.scan.scan_into.Goals.{In-loop-j}

pub slice_bounds-widen-end : goal.slice_bounds-widen-end
slice_bounds-widen-end c = primary-inside c.args.file.now c.args.n c.args.k c.requires.checked_map

pub loop-j-init : goal.loop-j-init
loop-j-init c =
    let a = c.args in
    (rw (add-sub_cancel_left 40 a.n) at c.widen.ensures)
    ∙ primary-over a.file.now a.n a.k c.requires.checked_map (λ i. (c.type_inv.file i).fits) a.out.now c.requires.n_in_bounds

-- entry j lies in the file
inside : (c : In-loop-j) → 40 + c.args.n + 12 * c.loop-j.j + 12 ≤ length c.args.file.now
inside c = entry-inside c.args.file.now c.args.n c.args.k c.requires.checked_map c.loop-j.j (omega arith)

pub entry_slot-slot-requires : goal.entry_slot-slot-requires
entry_slot-slot-requires c = inside (goal.at.entry_slot-slot-requires c).In-loop-j

pub entry_distance-requires : goal.entry_distance-requires
entry_distance-requires c = inside (goal.at.entry_distance-requires c).In-loop-j

pub bounds-out-slot : goal.bounds-out-slot
bounds-out-slot c =
    let a = c.args in
    let good = entry-good (file_parts a.file.now a.n a.k) c.requires.checked_map.parts c.loop-j.j (omega arith) in
    omega (arith, good.inside)

pub offset_bounds-out-slot : goal.offset_bounds-out-slot
offset_bounds-out-slot c = omega (arith, bounds-out-slot c)

pub loop-j-preserved : goal.loop-j-preserved
loop-j-preserved c =
    let a = c.args in
    rw (c.loop-j.invariant, c.entry_slot-slot.ensures, c.entry_distance.ensures)
    (over-more plain (file_parts a.file.now a.n a.k) c.requires.checked_map.parts
    (λ i. (c.type_inv.file (40 + i)).fits) c.loop-j.j _ (omega arith))

pub returns : goal.returns
returns c =
    let a = c.args in
    let P = file_parts a.file.now a.n a.k in
    let all : c.loop-j.j ≡ a.k = omega arith in
    c.loop-j.invariant
    ∙ rw all (over-end plain P c.requires.checked_map.parts (λ i. (c.type_inv.file (40 + i)).fits) a.out.now c.requires.n_in_bounds)
