-- Proves pciv_arith::shift: the check of the map, then the file of the result.
use Rattle.std.proofs.Common.{◌≡◌, sym, ◌∙◌}
use mir.Syntax.{w32}
use mir.Facts.{to_z-of_z}
use Rattle.pciv_format.proofs.RefusalsLaws.{passed_on}
use Rattle.pciv_arith.proofs.ShiftLaws.{checked, up_small, down_is, up_is, shift-refused, shift-written}
use Rattle.pciv_arith.specs.Direction.{direction_of}
use Rattle.pciv_arith.specs.declared.Direction.TheVariants.{Down, Up}
use Rattle.pciv_arith.proofs.shift.Goals as goal
use Rattle.pciv_arith.proofs.shift.Goals.{In-Down, In-Up}

-- which way it goes
down : (c : In-Down) → Down c.in-Down.m ≡ direction_of c.args.by
down c = rw (to_z-of_z {w = w32} {z = c.args.by} c.ranges.by) at c.in-Down.ensures

up : (c : In-Up) → Up c.in-Up.m ≡ direction_of c.args.by
up c = rw (to_z-of_z {w = w32} {z = c.args.by} c.ranges.by) at c.in-Up.ensures

pub returns-in_err-counts : goal.returns-in_err-counts
returns-in_err-counts c =
    let a = c.args in
    let r = shift-refused a.file.now _ (sym c.in_err-counts.ensures.answer) a.by a.out.now in
    record { answer = passed_on _ _ c.from_residual.ensures.1 ∙ r.0; buffer = r.1 }

pub lowered_into-requires : goal.lowered_into-requires
lowered_into-requires c = checked _ _ (sym c.in_ok-counts.ensures.answer) c.args.by

pub added_into-requires : goal.added_into-requires
added_into-requires c =
    let map = checked _ _ (sym c.in_ok-counts.ensures.answer) c.args.by in
    record {
      checked_pair = record { first = map; second = map };
      small = up_small c.args.by c.in-Up.m c.ranges.by (up (goal.at.added_into-requires c).In-Up);
    }

pub returns-in-Down : goal.returns-in-Down
returns-in-Down c =
    let a = c.args in
    let e = sym c.in_ok-counts.ensures.answer in
    let r = shift-written a.file.now _ e a.by _
    (down_is a.file.now _ e a.by c.in-Down.m (down (goal.at.returns-in-Down c).In-Down))
    a.out.now _ _ c.lowered_into.ensures.answer c.lowered_into.ensures.buffer in
    record { answer = r.0; buffer = r.1 }

pub returns-in-Up : goal.returns-in-Up
returns-in-Up c =
    let a = c.args in
    let e = sym c.in_ok-counts.ensures.answer in
    let r = shift-written a.file.now _ e a.by _
    (up_is a.file.now _ e a.by c.in-Up.m (up (goal.at.returns-in-Up c).In-Up))
    a.out.now _ _ c.added_into.ensures.answer c.added_into.ensures.buffer in
    record { answer = r.0; buffer = r.1 }
