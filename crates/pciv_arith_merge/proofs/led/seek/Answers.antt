-- Proves pciv_arith_merge::led::seek.
use Rattle.std.proofs.Common.{◌+◌, ◌<◌, arith}
use Rattle.pciv_format.specs.Parts.{entry_of}
use Rattle.pciv_format.specs.Check.{file_parts}
use Rattle.pciv_format.proofs.MapLaws.{entry-inside}
use Rattle.pciv_format.proofs.EntryLaws.{entry_of-there, entry_of-from, entry_of-above, entry_of-unique}
use Rattle.pciv_arith_merge.proofs.led.seek.Goals as goal
use Rattle.pciv_arith_merge.proofs.led.seek.Goals.{At-loop-j}

-- the slot has an entry
there : (c : At-loop-j) → entry_of (file_parts c.args.file.now c.args.n c.args.k) c.args.slot < c.args.k
there c =
    (entry_of-there (file_parts c.args.file.now c.args.n c.args.k) c.requires.checked_map.parts
    (λ i. (c.type_inv.file (40 + i)).fits) c.args.slot c.requires.slot_lt_n.0 c.requires.slot_lt_n.1).0

pub loop-j-init : goal.loop-j-init
loop-j-init c =
    entry_of-from (file_parts c.args.file.now c.args.n c.args.k) c.requires.checked_map.parts
    (λ i. (c.type_inv.file (40 + i)).fits) c.args.slot c.requires.slot_lt_n.0 c.requires.slot_lt_n.1 c.args.t
    c.requires.before.inside c.requires.before.low

pub entry_slot-requires : goal.entry_slot-requires
entry_slot-requires c =
    entry-inside c.args.file.now c.args.n c.args.k c.requires.checked_map c.loop-j.j
    (omega (arith, there (goal.at.entry_slot-requires c).At-loop-j))

pub overflow_add-j : goal.overflow_add-j
overflow_add-j c =
    let h = c.requires.checked_map.header in
    omega (arith, there (goal.at.overflow_add-j c).At-loop-j, h.few, h.small)

pub loop-j-preserved : goal.loop-j-preserved
loop-j-preserved c =
    entry_of-above (file_parts c.args.file.now c.args.n c.args.k) c.requires.checked_map.parts
    (λ i. (c.type_inv.file (40 + i)).fits) c.args.slot c.requires.slot_lt_n.0 c.requires.slot_lt_n.1 c.loop-j.j
    c.loop-j.invariant (omega (arith, c.entry_slot.ensures))

pub loop-j-smaller : goal.loop-j-smaller
loop-j-smaller c = omega (arith, loop-j-preserved c)

pub returns : goal.returns
returns c =
    entry_of-unique (file_parts c.args.file.now c.args.n c.args.k) c.requires.checked_map.parts
    (λ i. (c.type_inv.file (40 + i)).fits) c.args.slot c.requires.slot_lt_n.0 c.requires.slot_lt_n.1 c.loop-j.j
    c.loop-j.invariant (omega (arith, c.entry_slot.ensures))
