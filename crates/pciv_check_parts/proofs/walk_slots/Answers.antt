-- Proves pciv_check_parts::walk_slots.
use Rattle.std.proofs.Common.{◌≡◌, sym, ◌∙◌, arith, below_more}
use Rattle.pciv_bytes.proofs.RangesLaws.{first_below-at, first_below-none}
use Rattle.pciv_format.specs.Check.{file_parts}
use Rattle.pciv_format.proofs.BadSlotLaws.{walk-take, walk-skip, bad_slot-inline, bad_slot-entry, bad_slot-next}
use Rattle.pciv_check_parts.proofs.walk_slots.Goals as goal
use Rattle.pciv_check_parts.proofs.walk_slots.Goals.{then-file-i+else-k-j+else-get64-i, else-file-i}

pub returns-then-k-j : goal.returns-then-k-j
returns-then-k-j c =
    let a = c.args in
    let l = c.loop-i in
    sym (first_below-at _ a.n l.i (omega arith) l.invariant.right
    (bad_slot-next (file_parts a.file.now a.n a.k) c.requires.entries_right l.i l.j l.invariant.walk
    (λ h e. omega arith) c.if-file-i.true))

pub returns-then-get64-i : goal.returns-then-get64-i
returns-then-get64-i c =
    let a = c.args in
    let l = c.loop-i in
    sym (first_below-at _ a.n l.i (omega arith) l.invariant.right
    (bad_slot-next (file_parts a.file.now a.n a.k) c.requires.entries_right l.i l.j l.invariant.walk
    (λ h e. c.if-get64-i.true (c.get64.ensures ∙ e)) c.if-file-i.true))

pub loop-i-preserved : goal.loop-i-preserved
loop-i-preserved c =
    let a = c.args in
    let P = file_parts a.file.now a.n a.k in
    let l = c.loop-i in
    let v = l.invariant in
    elim c.if-file-i.branch [
      | then-file-i+else-k-j+else-get64-i w ↦
          (let e : P.slot l.j ≡ l.i = sym w.get64.ensures ∙ w.if-get64-i.false in
          record {
            few = omega (arith, w.if-k-j.false, w.j-is);
            walk = rw w.j-is (walk-take P c.requires.entries_right l.i l.j v.walk w.if-k-j.false e);
            right = below_more _ _ v.right (bad_slot-entry P l.i l.j w.if-k-j.false e);
          })
      | else-file-i w ↦
          record {
            few = omega (arith, w.j-is);
            walk = rw w.j-is (walk-skip P c.requires.entries_right l.i l.j v.walk w.if-file-i.false);
            right = below_more _ _ v.right (bad_slot-inline P l.i w.if-file-i.false);
          }
    ]

pub returns : goal.returns
returns c = sym (first_below-none _ c.args.n (λ i h. c.loop-i.invariant.right i (omega arith)))
