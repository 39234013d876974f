-- Proves pciv_disparity::put_entries.
use Rattle.std.proofs.Common.{◌≡◌, ℕ, ◌+◌, length, refl, ◌∙◌, arith}
use Rattle.pciv_bytes.specs.LittleEndian.{get}
use Rattle.pciv_build.proofs.FillLaws.{same_count, Next, fill_start, fill-next, fill_more, fill-over, fill_end}
use Rattle.pciv_disparity.specs.Disparity.{frame_distance}
use Rattle.pciv_disparity.proofs.put_entries.Goals as goal
use Rattle.pciv_disparity.proofs.put_entries.Goals.{In-loop}

-- the next slot in overflow
next_at : (c : In-loop) (slot : ℕ) → slot ≡ get 8 c.loop.out c.loop.place
    → Next (length c.args.frame.now) (frame_distance c.args.table.now c.args.frame.now) c.loop.invariant.from c.loop.out c.loop.place slot
next_at c slot is =
    rw is (fill-next c.loop.invariant.filling (omega (arith, c.loop.invariant.place_is, c.loop-test.true, c.requires.k_value)))

pub put_slots-requires : goal.put_slots-requires
put_slots-requires c =
    let a = c.args in
    omega (
      arith,
      same_count (length a.frame.now) (frame_distance a.table.now a.frame.now) a.out.now c.requires.holds_primary,
      c.requires.k_value,
      c.requires.k_in_bounds,
    )

pub loop-init : goal.loop-init
loop-init c =
    let a = c.args in
    record {
      place_is = omega arith;
      from = 0;
      filling =
          fill_start (length a.frame.now) (frame_distance a.table.now a.frame.now) a.out.now _ c.requires.holds_primary
          (omega (arith, c.requires.k_value, c.requires.k_in_bounds)) c.put_slots.ensures c.requires.frame_len_bound;
    }

pub bounds-frame-slot : goal.bounds-frame-slot
bounds-frame-slot c = (next_at (goal.at.bounds-frame-slot c).In-loop _ c.get64-slot.ensures).inside

pub loop-preserved : goal.loop-preserved
loop-preserved c =
    let next = next_at (goal.at.loop-preserved c).In-loop _ c.get64-slot.ensures in
    let e = c.put_entry-place.ensures in
    record {
      place_is = omega (arith, c.loop.invariant.place_is, e.next);
      from = c.get64-slot.result + 1;
      filling = fill_more c.loop.invariant.filling _ _ _ _ next refl e.buffer e.next;
    }

pub returns : goal.returns
returns c =
    let a = c.args in
    let v = frame_distance a.table.now a.frame.now in
    fill_end c.loop.invariant.filling (omega (arith, c.loop.invariant.place_is, c.requires.k_value))
    ∙ fill-over (length a.frame.now) v a.out.now _ c.requires.holds_primary
    (omega (arith, c.requires.k_value, c.requires.k_in_bounds)) c.put_slots.ensures
