-- Proves pciv_repair::lines::put_fields.
use Rattle.std.proofs.Common.{◌≡◌, true, arith}
use Rattle.std.proofs.Math.Nat.{zero-add}
use borrow.Author.Tests.{eq-eqb, ne_eqb}
use Rattle.pciv_repair.specs.Repair.{other_field}
use Rattle.pciv_repair.proofs.LinesLaws.{listing_start, listing-skip, listing-more, listing-room, listing-end}
use Rattle.pciv_repair.proofs.lines.put_fields.Goals as goal
use Rattle.pciv_repair.proofs.lines.put_fields.Goals.{then-before-after, else-before-after}

pub loop-i-init : goal.loop-i-init
loop-i-init c = listing_start _ _ _ _ _

pub put_line-line-requires : goal.put_line-line-requires
put_line-line-requires c =
    listing-room c.loop-i.invariant (omega (arith, c.requires.in_bounds_2)) (omega arith)
    (rw (← c.field_of-before.ensures, ← c.field_of-after.ensures, ne_eqb _ _ c.if-before-after.true))

pub loop-i-preserved : goal.loop-i-preserved
loop-i-preserved c =
    elim c.if-before-after.branch [
      | then-before-after w ↦ (let e = w.put_line-line.ensures in
          let other : other_field c.args.file.now c.args.new.now c.loop-i.i ≡ true =
          rw (← c.field_of-before.ensures, ← c.field_of-after.ensures, ne_eqb _ _ w.if-before-after.true) in
          rw (w.list-is, w.line-is)
          (listing-more c.loop-i.invariant (omega arith) other
          (rw (w.field_at.ensures, c.field_of-before.ensures, c.field_of-after.ensures)) (e.next, e.list)))
      | else-before-after w ↦ rw (w.list-is, w.line-is)
          (listing-skip c.loop-i.invariant (omega arith)
          (rw (← c.field_of-before.ensures, ← c.field_of-after.ensures, eq-eqb _ _ w.if-before-after.false)))
    ]

pub returns : goal.returns
returns c =
    let e = rw zero-add at (listing-end c.loop-i.invariant c.loop-i-test.false) in
    record { next = e.0; list = e.1 }
