-- Proves pciv_arith_change::byte_differences.
use Rattle.std.proofs.Common.{length, sym, ap, ◌∙◌, arith}
use Rattle.std.proofs.lemmas.List.Edits.{sets}
use Rattle.pciv_bytes.specs.ByteAt.{byte_at}
use Rattle.pciv_bytes.proofs.RangesLaws.{table_done}
use Rattle.pciv_arith_change.specs.Differences.{difference_at}
use Rattle.pciv_arith_change.proofs.DifferencesLaws.{bytes-more}
use Rattle.pciv_arith_change.proofs.byte_differences.Goals as goal

pub loop-i-preserved : goal.loop-i-preserved
loop-i-preserved c =
    let a = c.args in
    let l = c.loop-i in
    record {
      inside = omega arith;
      rest = l.invariant.rest
          ∙ rw (c.lower.ensures, c.raised_differences.ensures)
          (bytes-more a.a.now a.b.now (λ i. (c.type_inv.a i).fits) (length a.a.now) l.out l.raised l.i c.min-count.result
          (omega arith) (omega arith));
    }

pub returns : goal.returns
returns c =
    let a = c.args in
    let l = c.loop-i in
    let f = difference_at (byte_at a.a.now) (byte_at a.b.now) in
    sym (l.invariant.rest ∙ ap (sets l.out l.i) (table_done f (length a.a.now) l.i c.loop-i-test.false))
