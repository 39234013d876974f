-- Proves pciv_write::put_entries, by the laws of FillLaws.antt (pciv_build).
use Rattle.std.proofs.Common.{◌+◌, ◌*◌, length, refl, ◌∙◌, arith}
use native.Mathlib.Nat.{add-zero}
use Rattle.pciv_format.specs.Layout.{at}
use Rattle.pciv_build.proofs.FillLaws.{same_count, Next, fill_start, fill-next, fill_more, fill-over, fill_end}
use Rattle.pciv_write.proofs.put_entries.Goals as goal
use Rattle.pciv_write.proofs.put_entries.Goals.{After-get64-slot}

-- the next slot in overflow
next : (c : After-get64-slot)
    → Next (length c.args.distances.now) (at c.args.distances.now) c.loop-j.invariant.0 c.loop-j.out
    (40 + length c.args.distances.now + 12 * c.loop-j.j) c.get64-slot.result
next c = rw c.get64-slot.ensures (fill-next c.loop-j.invariant.1 (omega (arith, c.requires.k_value)))

pub put_slots-requires : goal.put_slots-requires
put_slots-requires c =
    let xs = c.args.distances.now in
    omega (arith, same_count (length xs) (at xs) c.args.out.now c.requires.holds_primary, c.requires.k_value)

pub loop-j-init : goal.loop-j-init
loop-j-init c =
    let xs = c.args.distances.now in
    let start =
    fill_start (length xs) (at xs) c.args.out.now _ c.requires.holds_primary (omega (arith, c.requires.k_value))
    c.put_slots.ensures c.requires.distances_len_bound in
    (0, rw add-zero start)

pub offset_bounds-distances-slot : goal.offset_bounds-distances-slot
offset_bounds-distances-slot c =
    omega (arith, (next (goal.at.offset_bounds-distances-slot c).After-get64-slot).inside, c.requires.distances_len_bound)

pub bounds-distances-slot : goal.bounds-distances-slot
bounds-distances-slot c = (next (goal.at.bounds-distances-slot c).After-get64-slot).inside

pub loop-j-preserved : goal.loop-j-preserved
loop-j-preserved c = (
  c.get64-slot.result + 1,
  fill_more c.loop-j.invariant.1 _ _ _ _ (next (goal.at.loop-j-preserved c).After-get64-slot) refl
      c.put_entry.ensures.buffer (omega arith),
)

pub returns : goal.returns
returns c =
    let xs = c.args.distances.now in
    fill_end c.loop-j.invariant.1 (omega (arith, c.requires.k_value))
    ∙ fill-over (length xs) (at xs) c.args.out.now _ c.requires.holds_primary (omega (arith, c.requires.k_value))
    c.put_slots.ensures
