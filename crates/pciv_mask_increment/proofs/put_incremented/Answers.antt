-- Proves pciv_mask_increment::put_incremented.
use Rattle.std.proofs.Common.{◌+◌, ◌∙◌, arith}
use Rattle.pciv_format.specs.Check.{file_parts}
use Rattle.pciv_format.specs.Parts.{Parts}
use Rattle.pciv_format.proofs.MaskLaws.{mask-covers}
use Rattle.pciv_build.proofs.FillLaws.{same_count, fill_start, fill-over, fill_end}
use Rattle.pciv_mask_primary.specs.Masked.{masked_distance}
use Rattle.pciv_mask_primary.specs.declared.MaskedOp.TheVariants.{Increment}
use Rattle.pciv_mask_increment.proofs.RaisedLaws.{RaisingAt, raising-start, raising-next, raising-more}
use Rattle.pciv_mask_increment.proofs.put_incremented.Goals as goal
use Rattle.pciv_mask_increment.proofs.put_incremented.Goals.{After-get64-slot}

abbrev parts : After-get64-slot → Parts
parts c = file_parts c.args.file.now c.args.n c.args.k

-- the cursor at the slot that was read
here : (c : After-get64-slot) → (let l = c.loop-at in
    RaisingAt (parts c) c.args.words.now l.invariant.from l.out l.at l.j c.get64-slot.result)
here c =
    let l = c.loop-at in
    raising-next (parts c) c.args.words.now _ c.requires.checked_map.parts (λ i. (c.type_inv.file (40 + i)).fits)
    l.out l.at l.j l.invariant (omega (arith, c.loop-at-test.true, c.requires.count_value)) c.get64-slot.result c.get64-slot.ensures

pub put_slots-requires : goal.put_slots-requires
put_slots-requires c =
    let a = c.args in
    omega (
      arith,
      same_count a.n (masked_distance Increment (file_parts a.file.now a.n a.k) a.words.now) a.out.now c.requires.holds_primary,
      c.requires.count_value,
      c.requires.count_in_bounds,
    )

pub loop-at-init : goal.loop-at-init
loop-at-init c =
    let a = c.args in
    raising-start (file_parts a.file.now a.n a.k) a.words.now _ _
    (fill_start a.n _ a.out.now _ c.requires.holds_primary (omega (arith, c.requires.count_value, c.requires.count_in_bounds))
    c.put_slots.ensures c.requires.checked_map.header.small)

pub take_at-x-requires-clause-slot_lt_n : goal.take_at-x-requires-clause-slot_lt_n
take_at-x-requires-clause-slot_lt_n c =
    let e = here (goal.at.take_at-x-requires-clause-slot_lt_n c).After-get64-slot in
    (e.next.inside, e.cursor)

pub bit_of-requires : goal.bit_of-requires
bit_of-requires c =
    omega (arith, (here (goal.at.bit_of-requires c).After-get64-slot).next.inside, mask-covers c.requires.mask)

pub loop-at-preserved : goal.loop-at-preserved
loop-at-preserved c =
    let a = c.args in
    raising-more (file_parts a.file.now a.n a.k) a.words.now _ _ _ _ _ _ _ _ _ c.loop-at.invariant
    (here (goal.at.loop-at-preserved c).After-get64-slot) c.take_at-x.ensures
    c.bit_of.ensures c.put_entry-at.ensures.buffer c.put_entry-at.ensures.next

pub returns : goal.returns
returns c =
    let a = c.args in
    fill_end c.loop-at.invariant.fill (omega (arith, c.loop-at-test.false, c.requires.count_value))
    ∙ fill-over a.n _ a.out.now _ c.requires.holds_primary (omega (arith, c.requires.count_value, c.requires.count_in_bounds))
    c.put_slots.ensures
