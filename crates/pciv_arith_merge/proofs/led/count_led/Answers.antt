-- Proves pciv_arith_merge::led::count_led.
use Rattle.std.proofs.Common.{◌+◌, arith}
use Rattle.pciv_format.specs.Check.{file_parts}
use Rattle.pciv_build.proofs.EntriesLaws.{counted_start}
use Rattle.pciv_build.proofs.AlongLaws.{Along, counted-entry, counted-pass, counted-last}
use Rattle.pciv_arith_merge.specs.Merge.{combined_of}
use Rattle.pciv_arith_merge.proofs.LedLaws.{led-start, led-next, combined-along}
use Rattle.pciv_arith_merge.proofs.led.count_led.Goals as goal
use Rattle.pciv_arith_merge.proofs.led.count_led.Goals.{At-loop-j, After-combine_entry-found, then-found-ge255, else-found-ge255}

-- the result is in overflow only where the first map is
along : (c : At-loop-j)
    → (let A = file_parts c.args.a.now c.args.n c.args.ka in
    Along A (combined_of c.args.op A (file_parts c.args.b.now c.args.n c.args.kb)))
along c =
    combined-along c.args.op c.requires.shrinks (file_parts c.args.a.now c.args.n c.args.ka)
    (file_parts c.args.b.now c.args.n c.args.kb) c.requires.checked_pair.first.parts
    (λ i. (c.type_inv.a (40 + i)).fits)

pub loop-j-init : goal.loop-j-init
loop-j-init c = record { cursor = led-start _ _; counted = counted_start _ _ }

pub loop-j-preserved : goal.loop-j-preserved
loop-j-preserved c =
    let x = along (goal.at.loop-j-preserved c).At-loop-j in
    record {
      cursor = led-next _ _ c.loop-j.j _ c.loop-j-test.true c.combine_entry-found.ensures.before;
      counted = elim c.if-found-ge255.branch [
        | then-found-ge255 w ↦
            rw w.count-is (counted-entry x c.loop-j.j c.loop-j-test.true c.loop-j.invariant.counted (omega arith))
        | else-found-ge255 w ↦
            rw w.count-is (counted-pass x c.loop-j.j c.loop-j-test.true c.loop-j.invariant.counted (omega arith))
      ];
    }

pub returns : goal.returns
returns c =
    counted-last (along (goal.at.returns c).At-loop-j) c.loop-j.j c.loop-j.invariant.cursor.inside c.loop-j-test.false
    c.loop-j.invariant.counted
