-- Proves pciv_arith_merge::led::put_led.
use Rattle.std.proofs.Common.{◌+◌, arith}
use Rattle.pciv_format.specs.Check.{file_parts}
use Rattle.pciv_build.proofs.EntriesLaws.{entries-start}
use Rattle.pciv_build.proofs.AlongLaws.{Along}
use Rattle.pciv_build.proofs.AlongLaws.{entries_fit, entries-entry, entries-pass, entries-last}
use Rattle.pciv_arith_merge.specs.Merge.{combined_of}
use Rattle.pciv_arith_merge.proofs.LedLaws.{led-start, led-next, combined-along}
use Rattle.pciv_arith_merge.proofs.led.put_led.Goals as goal
use Rattle.pciv_arith_merge.proofs.led.put_led.Goals.{At-loop-j, After-combine_entry-entry, then-is_far, else-is_far}

-- the result is in overflow only where the first map is
along : (c : At-loop-j)
    → (let A = file_parts c.args.a.now c.args.n c.args.ka in
    Along A (combined_of c.args.op A (file_parts c.args.b.now c.args.n c.args.kb)))
along c =
    combined-along c.args.op c.requires.shrinks (file_parts c.args.a.now c.args.n c.args.ka)
    (file_parts c.args.b.now c.args.n c.args.kb) c.requires.checked_pair.first.parts
    (λ i. (c.type_inv.a (40 + i)).fits)

pub loop-j-init : goal.loop-j-init
loop-j-init c = record { cursor = led-start _ _; left = entries-start _ _ c.args.out.now c.args.from c.requires.kb_in_bounds }

pub put_entry-at-requires : goal.put_entry-at-requires
put_entry-at-requires c =
    entries_fit (along (goal.at.put_entry-at-requires c).At-loop-j) c.loop-j.j c.loop-j-test.true c.loop-j.invariant.left
    (omega arith)

pub loop-j-preserved : goal.loop-j-preserved
loop-j-preserved c =
    let x = along (goal.at.loop-j-preserved c).At-loop-j in
    let e = c.combine_entry-entry.ensures in
    record {
      cursor = led-next _ _ c.loop-j.j _ c.loop-j-test.true e.before;
      left = elim c.if-is_far.branch [
        | then-is_far w ↦
            rw (w.out-is, w.at-is)
            (entries-entry x c.loop-j.j c.loop-j-test.true c.loop-j.invariant.left (omega arith) _ _ _ _ e.slot e.distance
            w.put_entry-at.ensures.buffer w.put_entry-at.ensures.next)
        | else-is_far w ↦
            rw (w.out-is, w.at-is)
            (entries-pass x c.loop-j.j c.loop-j-test.true c.loop-j.invariant.left (omega arith))
      ];
    }

pub returns : goal.returns
returns c =
    entries-last (along (goal.at.returns c).At-loop-j) c.loop-j.j c.loop-j.invariant.cursor.inside c.loop-j-test.false
    c.loop-j.invariant.left
