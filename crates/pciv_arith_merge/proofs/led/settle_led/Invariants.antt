-- The primary bytes are right where the first map is stored inline, and at the slots of its first j entries; the overflow
-- entries of later slots are left to write.
use Rattle.pciv_format.specs.Check.{file_parts}
use Rattle.pciv_arith_merge.specs.Merge.{combined_of}
use Rattle.pciv_arith_merge.proofs.LedLaws.{LedAt}
use Rattle.pciv_arith_merge.proofs.MendLaws.{Settled}
use Rattle.pciv_arith_merge.proofs.led.settle_led.Given as goal

abbrev pub invariant-loop-j : goal.invariant-loop-j
invariant-loop-j l =
    let A = file_parts l.a l.n l.ka in
    let B = file_parts l.b l.n l.kb in
    record {
      cursor : LedAt A B l.j l.t;
      settled : Settled A (combined_of l.op A B) l.fn.out l.j l.out l.at;
    }
