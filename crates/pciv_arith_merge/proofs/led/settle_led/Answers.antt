-- Proves pciv_arith_merge::led::settle_led.
use Rattle.std.proofs.Common.{◌+◌, ◌<◌, ap, ◌∙◌, arith}
use Rattle.pciv_format.specs.Layout.{primary_byte}
use Rattle.pciv_format.specs.Check.{file_parts}
use Rattle.pciv_format.proofs.PartsLaws.{entry-good}
use Rattle.pciv_build.proofs.AlongLaws.{Along}
use Rattle.pciv_arith_merge.specs.Merge.{combined_of}
use Rattle.pciv_arith_merge.proofs.LedLaws.{led-start, led-next, combined-along}
use Rattle.pciv_arith_merge.proofs.MendLaws.{settled-start, settled-byte, settled-space, settled-more, settled-pass, settled-end}
use Rattle.pciv_arith_merge.proofs.led.settle_led.Goals as goal
use Rattle.pciv_arith_merge.proofs.led.settle_led.Goals.{At-loop-j, After-combine_entry-found, then-distance-ge255, else-distance-ge255}

-- the result is in overflow only where the first map is
along : (c : At-loop-j)
    → (let A = file_parts c.args.a.now c.args.n c.args.ka in
    Along A (combined_of c.args.op A (file_parts c.args.b.now c.args.n c.args.kb)))
along c =
    combined-along c.args.op c.requires.shrinks (file_parts c.args.a.now c.args.n c.args.ka)
    (file_parts c.args.b.now c.args.n c.args.kb) c.requires.checked_pair.first.parts
    (λ i. (c.type_inv.a (40 + i)).fits)

-- the slot is one of the map's
inside : (c : After-combine_entry-found) → c.combine_entry-found.result.slot < c.args.n
inside c =
    omega (
      arith,
      (entry-good (file_parts c.args.a.now c.args.n c.args.ka) c.requires.checked_pair.first.parts c.loop-j.j
          c.loop-j-test.true).inside,
    )

pub loop-j-init : goal.loop-j-init
loop-j-init c =
    record {
      cursor = led-start _ _;
      settled = settled-start _ _ c.args.out.now c.requires.inline_right c.requires.kb_in_bounds;
    }

pub overflow_add-out : goal.overflow_add-out
overflow_add-out c =
    omega (arith, inside (goal.at.overflow_add-out c).After-combine_entry-found, c.requires.checked_pair.first.header.small)

pub bounds-out-slot : goal.bounds-out-slot
bounds-out-slot c = settled-byte c.loop-j.invariant.settled _ (inside (goal.at.bounds-out-slot c).After-combine_entry-found)

pub put_entry-at-requires : goal.put_entry-at-requires
put_entry-at-requires c =
    let e = c.combine_entry-found.ensures in
    settled-space (along (goal.at.put_entry-at-requires c).At-loop-j) c.loop-j.invariant.settled c.loop-j-test.true _ _ e.slot
    (c.primary_byte.ensures ∙ ap primary_byte e.distance) (omega arith)

pub loop-j-preserved : goal.loop-j-preserved
loop-j-preserved c =
    let x = along (goal.at.loop-j-preserved c).At-loop-j in
    let e = c.combine_entry-found.ensures in
    let byte = c.primary_byte.ensures ∙ ap primary_byte e.distance in
    record {
      cursor = led-next _ _ c.loop-j.j _ c.loop-j-test.true e.before;
      settled = elim c.if-distance-ge255.branch [
        | then-distance-ge255 w ↦
            rw (w.out-is, w.at-is)
            (settled-more x c.loop-j.invariant.settled c.loop-j-test.true _ _ e.slot byte (omega arith) _ _ _ e.distance
            w.put_entry-at.ensures.buffer w.put_entry-at.ensures.next)
        | else-distance-ge255 w ↦
            rw (w.out-is, w.at-is)
            (settled-pass x c.loop-j.invariant.settled c.loop-j-test.true _ _ e.slot byte (omega arith))
      ];
    }

pub returns : goal.returns
returns c =
    settled-end (along (goal.at.returns c).At-loop-j) c.loop-j.invariant.settled c.loop-j.invariant.cursor.inside
    c.loop-j-test.false
