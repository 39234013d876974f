-- Proves pciv_arith_add::put::put_entries.
use Rattle.std.proofs.Common.{ℕ, ◌≡◌, ◌+◌, ◌*◌, ◌<◌, refl, ◌∙◌, arith}
use Rattle.pciv_bytes.specs.LittleEndian.{get}
use Rattle.pciv_format.specs.Check.{file_parts}
use Rattle.pciv_build.proofs.FillLaws.{same_count, fill_start, fill-over, fill_end}
use Rattle.pciv_check.proofs.SoundPairLaws.{sound}
use Rattle.pciv_arith_add.specs.Addition.{added_at}
use Rattle.pciv_arith_add.proofs.AddendLaws.{checked-maps}
use Rattle.pciv_arith_add.proofs.PutLaws.{PutAt, putting-start, putting-next, putting-more}
use Rattle.pciv_arith_add.proofs.put.put_entries.Goals as goal
use Rattle.pciv_arith_add.proofs.put.put_entries.Goals.{At-loop-e}

-- both cursors at the next slot in overflow
next-at : (c : At-loop-e) → c.loop-e.e < c.args.k → (slot : ℕ)
    → slot ≡ get 8 c.loop-e.out (40 + c.args.n + 12 * c.loop-e.e)
    → PutAt c.args.of (file_parts c.args.a.now c.args.n c.args.ka) (file_parts c.args.b.now c.args.n c.args.kb)
    c.loop-e.invariant.from c.loop-e.out (40 + c.args.n + 12 * c.loop-e.e) c.loop-e.j c.loop-e.t slot
next-at c more slot is =
    putting-next (sound (checked-maps c.requires.checked_pair c.type_inv.a c.type_inv.b)) c.args.of _ c.loop-e.out
    _ c.loop-e.j c.loop-e.t c.loop-e.invariant (omega (arith, c.requires.k_value)) slot is

pub put_slots-requires : goal.put_slots-requires
put_slots-requires c =
    let a = c.args in
    let v = added_at a.of (file_parts a.a.now a.n a.ka) (file_parts a.b.now a.n a.kb) in
    omega (arith, same_count a.n v c.args.out.now c.requires.holds_primary, c.requires.k_value, c.requires.k_in_bounds)

pub loop-e-init : goal.loop-e-init
loop-e-init c =
    let first : 40 + c.args.n + 0 ≡ 40 + c.args.n = omega arith in
    rw first
    (putting-start (sound (checked-maps c.requires.checked_pair c.type_inv.a c.type_inv.b)) c.args.of _ _
    (fill_start c.args.n _ c.args.out.now _ c.requires.holds_primary (omega (arith, c.requires.k_value, c.requires.k_in_bounds))
    c.put_slots.ensures c.requires.checked_pair.first.header.small))

pub take_at-x-requires-clause-slot_lt_n : goal.take_at-x-requires-clause-slot_lt_n
take_at-x-requires-clause-slot_lt_n c =
    let here = next-at (goal.at.take_at-x-requires-clause-slot_lt_n c).At-loop-e c.loop-e-test.true _ c.get64-slot.ensures in
    (here.next.inside, here.first)

pub take_addend-y-requires-clause-slot_lt_n : goal.take_addend-y-requires-clause-slot_lt_n
take_addend-y-requires-clause-slot_lt_n c =
    let here = next-at (goal.at.take_addend-y-requires-clause-slot_lt_n c).At-loop-e c.loop-e-test.true _ c.get64-slot.ensures in
    (here.next.inside, here.second)

pub overflow_add-x : goal.overflow_add-x
overflow_add-x c =
    let here = next-at (goal.at.overflow_add-x c).At-loop-e c.loop-e-test.true _ c.get64-slot.ensures in
    omega (arith, c.requires.fits _ here.next.inside, here.sum, c.take_at-x.ensures.is, c.take_addend-y.ensures.is)

pub loop-e-preserved : goal.loop-e-preserved
loop-e-preserved c =
    putting-more (sound (checked-maps c.requires.checked_pair c.type_inv.a c.type_inv.b)) c.args.of _ _ _ _ _ _ _ _ _ _ _
    c.loop-e.invariant (next-at (goal.at.loop-e-preserved c).At-loop-e c.loop-e-test.true _ c.get64-slot.ensures)
    c.take_at-x.ensures c.take_addend-y.ensures refl c.put_entry.ensures.buffer (omega arith)

pub returns : goal.returns
returns c =
    fill_end c.loop-e.invariant.fill (omega (arith, c.loop-e-test.false, c.requires.k_value))
    ∙ fill-over c.args.n _ c.args.out.now _ c.requires.holds_primary (omega (arith, c.requires.k_value, c.requires.k_in_bounds))
    c.put_slots.ensures
