-- Proves pciv_close::search_slots. The reasoning on slots is in FullSearchLaws.antt (pciv_format).
use Rattle.std.proofs.Common.{◌≡◌, sym, add-one, arith}
use Rattle.pciv_format.specs.Parts.{Parts}
use Rattle.pciv_format.proofs.PartsLaws.{GoodEntry, entry_at}
use Rattle.pciv_format.proofs.FullSearchLaws.{lowest-le, searched-found, searched-more, searched-end}
use Rattle.pciv_close.specs.Close.{slot_parts}
use Rattle.pciv_close.proofs.search_slots.Goals as goal
use Rattle.pciv_close.proofs.search_slots.Goals.{In-loop-slot}

-- the slot of the entry is one of the n, and not below `from`
good : (c : In-loop-slot) → GoodEntry (slot_parts c.args.primary.now c.args.slots.now) c.loop-slot.slot-index
good c = entry_at (slot_parts c.args.primary.now c.args.slots.now) c.requires c.loop-slot.slot-index (omega arith)

pub find_byte-full-requires : goal.find_byte-full-requires
find_byte-full-requires c =
    let g = good (goal.at.find_byte-full-requires c).In-loop-slot in
    (omega (arith, c.loop-slot.invariant.lowest, g.above), omega (arith, g.inside))

pub returns-then-full-slot : goal.returns-then-full-slot
returns-then-full-slot c =
    sym
    (searched-found (slot_parts c.args.primary.now c.args.slots.now) c.requires c.loop-slot.from
    c.loop-slot.invariant.searched c.loop-slot.slot-index _ (omega arith) c.loop-slot.invariant.lowest c.find_byte-full.ensures c.if-full-slot.true)

pub overflow_add-from : goal.overflow_add-from
overflow_add-from c = omega (arith, (good (goal.at.overflow_add-from c).In-loop-slot).inside)

pub loop-slot-preserved : goal.loop-slot-preserved
loop-slot-preserved c =
    record {
      lowest = rw (add-one c.loop-slot.slot-index);
      searched = searched-more (slot_parts c.args.primary.now c.args.slots.now) c.requires c.loop-slot.from
          c.loop-slot.invariant.searched c.loop-slot.slot-index _ (omega arith) c.find_byte-full.ensures (omega arith);
    }

pub find_byte-requires : goal.find_byte-requires
find_byte-requires c =
    let P : Parts = slot_parts c.args.primary.now c.args.slots.now in
    let low = lowest-le P c.requires c.loop-slot.slot-index (omega arith) in
    (omega (arith, c.loop-slot.invariant.lowest, low), omega arith)

pub returns : goal.returns
returns c =
    let P : Parts = slot_parts c.args.primary.now c.args.slots.now in
    let end : c.loop-slot.slot-index ≡ P.k = omega arith in
    sym
    (searched-end P c.requires c.loop-slot.from c.loop-slot.invariant.searched _ (rw end at c.loop-slot.invariant.lowest)
    c.find_byte.ensures)
