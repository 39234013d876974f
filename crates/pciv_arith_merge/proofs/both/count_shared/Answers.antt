-- Proves pciv_arith_merge::both::count_shared.
use Rattle.std.proofs.Common.{◌<◌, eqb, arith}
use Rattle.pciv_bytes.proofs.RangesLaws.{bool_byte-flag}
use Rattle.pciv_format.specs.Check.{file_parts}
use Rattle.pciv_format.specs.declared.SlotOp.TheVariants.{Minimum}
use Rattle.pciv_format.proofs.PartsLaws.{entry-good}
use Rattle.pciv_format.proofs.MapLaws.{primary-inside, entry-inside}
use Rattle.pciv_build.proofs.EntriesLaws.{counted_start}
use Rattle.pciv_build.proofs.AlongLaws.{counted-last}
use Rattle.pciv_arith_merge.proofs.CombineLaws.{checked-sound, shrinks-minimum}
use Rattle.pciv_arith_merge.proofs.LedLaws.{combined-along}
use Rattle.pciv_arith_merge.proofs.BothLaws.{shared-more}
use Rattle.pciv_arith_merge.proofs.both.count_shared.Goals as goal
use Rattle.pciv_arith_merge.proofs.both.count_shared.Goals.{After-entry_slot-slot}

pub loop-j-init : goal.loop-j-init
loop-j-init c = counted_start _ _

pub entry_slot-slot-requires : goal.entry_slot-slot-requires
entry_slot-slot-requires c =
    entry-inside c.args.a.now c.args.n c.args.ka c.requires.first c.loop-j.j c.loop-j-test.true

-- the slot of entry j is one of the n
inside : (c : After-entry_slot-slot) → c.entry_slot-slot.result < c.args.n
inside c =
    let a = c.args in
    omega (
      arith,
      (entry-good (file_parts a.a.now a.n a.ka) c.requires.first.parts c.loop-j.j c.loop-j-test.true).inside,
    )

pub overflow_add-count : goal.overflow_add-count
overflow_add-count c =
    omega (arith, inside (goal.at.overflow_add-count c).After-entry_slot-slot, c.requires.first.header.small)

pub bounds-b-slot : goal.bounds-b-slot
bounds-b-slot c =
    omega (
      arith,
      inside (goal.at.bounds-b-slot c).After-entry_slot-slot,
      primary-inside c.args.b.now c.args.n c.args.kb c.requires.second,
    )

pub loop-j-preserved : goal.loop-j-preserved
loop-j-preserved c =
    let a = c.args in
    let A = file_parts a.a.now a.n a.ka in
    let B = file_parts a.b.now a.n a.kb in
    rw (c.entry_slot-slot.ensures, bool_byte-flag (eqb (B.byte (A.slot c.loop-j.j)) 255))
    (shared-more (checked-sound c.requires c.type_inv.a c.type_inv.b) c.loop-j.j c.loop-j-test.true c.loop-j.invariant)

pub returns : goal.returns
returns c =
    let p = checked-sound c.requires c.type_inv.a c.type_inv.b in
    counted-last (combined-along Minimum shrinks-minimum _ _ p.first p.bytes-first) c.loop-j.j (omega arith)
    c.loop-j-test.false c.loop-j.invariant
