-- Proves pciv_repair::lines::put_block.
use Rattle.std.proofs.Common.{refl, arith}
use borrow.Author.Tests.{eq-eqb, ne_eqb}
use Rattle.pciv_repair.proofs.LinesLaws.{listing-from, listing-skip, listing-more, listing-room, listing-end}
use Rattle.pciv_repair.proofs.lines.put_block.Goals as goal
use Rattle.pciv_repair.proofs.lines.put_block.Goals.{then-file-at+then-new-at, else-file-at}
use Rattle.pciv_repair.proofs.lines.put_block.Goals.{else-file-at-via-then-file-at+else-new-at, else-file-at-via-else-file-at}

pub loop-slot-init : goal.loop-slot-init
loop-slot-init c = listing-from _ _ _ _ _ _ c.requires.start_le_to.0

pub put_line-line-requires : goal.put_line-line-requires
put_line-line-requires c =
    listing-room c.loop-slot.invariant c.requires.start_in_bounds (omega arith)
    (rw (eq-eqb _ _ c.if-file-at.true, ne_eqb _ _ c.if-new-at.true))

pub loop-slot-preserved : goal.loop-slot-preserved
loop-slot-preserved c =
    elim c.if-file-at.branch [
      | then-file-at+then-new-at w ↦ (let e = w.put_line-line.ensures in
          rw (w.list-is, w.line-is)
          (listing-more c.loop-slot.invariant (omega arith)
          (rw (eq-eqb _ _ w.if-file-at.true, ne_eqb _ _ w.if-new-at.true)) refl (e.next, e.list)))
      | else-file-at w ↦ rw (w.list-is, w.line-is)
          (elim w.else-file-at.branch [
            | else-file-at-via-then-file-at+else-new-at w' ↦ listing-skip c.loop-slot.invariant (omega arith)
                (rw (eq-eqb _ _ w'.if-file-at.true, eq-eqb _ _ w'.if-new-at.false))
            | else-file-at-via-else-file-at w' ↦ listing-skip c.loop-slot.invariant (omega arith) (rw (ne_eqb _ _ w'.if-file-at.false))
          ])
    ]

pub returns : goal.returns
returns c = let e = listing-end c.loop-slot.invariant c.loop-slot-test.false in record { next = e.0; list = e.1 }
