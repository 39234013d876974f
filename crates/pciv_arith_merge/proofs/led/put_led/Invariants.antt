-- The entries of the slots from the least one that entry j of the first map may have are left to write.
use Rattle.pciv_format.specs.Check.{file_parts}
use Rattle.pciv_format.specs.Parts.{lowest_slot}
use Rattle.pciv_build.proofs.EntriesLaws.{EntriesLeft}
use Rattle.pciv_arith_merge.specs.Merge.{combined_of}
use Rattle.pciv_arith_merge.proofs.LedLaws.{LedAt}
use Rattle.pciv_arith_merge.proofs.led.put_led.Given as goal

abbrev pub invariant-loop-j : goal.invariant-loop-j
invariant-loop-j l =
    let A = file_parts l.a l.n l.ka in
    let B = file_parts l.b l.n l.kb in
    record {
      cursor : LedAt A B l.j l.t;
      left : EntriesLeft l.n (combined_of l.op A B) l.fn.out l.from (lowest_slot A l.j) l.out l.at;
    }
