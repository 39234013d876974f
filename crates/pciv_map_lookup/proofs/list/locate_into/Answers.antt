-- Proves pciv_map_lookup::list::locate_into: WaitLaws.antt has the reasoning on places that wait.
use Rattle.std.proofs.Common.{◌+◌, get_or, set, refl, arith, eqb}
use mir.Val.{bool_byte}
use Rattle.pciv_bytes.proofs.RangesLaws.{bool_byte-flag}
use Rattle.pciv_format.specs.Check.{file_parts}
use Rattle.pciv_format.proofs.MapLaws.{primary-inside}
use Rattle.pciv_map_lookup.proofs.WaitLaws.{Walk, walk_start, walk_more, walk-filled}
use Rattle.pciv_map_lookup.proofs.list.locate_into.Goals as goal
use Rattle.pciv_map_lookup.proofs.list.locate_into.Goals.{In-loop-i, then-waiting-eq8, else-waiting-eq8}

pub loop-i-init : goal.loop-i-init
loop-i-init c = record { few = omega arith; walk = walk_start _ c.requires.checked_map.parts _ _ _ }

pub bounds-file-slot : goal.bounds-file-slot
bounds-file-slot c =
    omega (
      arith,
      c.requires.by_index c.loop-i.i (omega arith),
      primary-inside _ _ _ c.requires.checked_map,
    )

-- the walk after the slot, with its place among those that wait
walked : (c : In-loop-i)
    → (let l = c.loop-i in
    let x = get_or c.args.file.now (40 + get_or c.args.slots.now l.i 0) 0 in
    Walk (file_parts c.args.file.now c.args.n c.args.k) c.args.slots.now c.args.distances.now c.args.entries.now
    (set l.distances l.i x) (set l.entries l.i c.args.k) (set l.places l.waiting l.i)
    (l.waiting + bool_byte (eqb x 255)) (l.i + 1))
walked c =
    let l = c.loop-i in
    let x = get_or c.args.file.now (40 + get_or c.args.slots.now l.i 0) 0 in
    rw (bool_byte-flag (eqb x 255))
    (walk_more _ c.requires.checked_map.parts _ _ _ _ _ _ _ _ l.invariant.walk l.invariant.few (omega arith)
    (c.requires.by_index l.i (omega arith)) x refl
    (omega (arith, c.type_inv.file (40 + get_or c.args.slots.now l.i 0))))

pub loop-i-preserved : goal.loop-i-preserved
loop-i-preserved c =
    let walk = walked (goal.at.loop-i-preserved c).In-loop-i in
    elim c.if-waiting-eq8.branch [
      | then-waiting-eq8 w ↦
          record {
            few = omega (arith, w.waiting-is);
            walk = rw (w.waiting-is, w.distances-is, w.entries-is)
                (walk-filled _ c.requires.checked_map.parts _ _ _ _ _ _ _ _ (rw w.if-waiting-eq8.true at walk)
                _ _ w.locate8.ensures.distances_after w.locate8.ensures.entries_after
                w.locate8.auto.distances w.locate8.auto.entries);
          }
      | else-waiting-eq8 w ↦
          record {
            few = omega (arith, walk.places.overflows.long, walk.places.eight, w.if-waiting-eq8.false, w.waiting-is);
            walk = rw (w.waiting-is, w.distances-is, w.entries-is) walk;
          }
    ]
