-- Proves pciv_disparity::fill_table.
use Rattle.std.proofs.Common.{ℕ, arith}
use Rattle.std.proofs.lemmas.List.{length-replicate}
use Rattle.pciv_bytes.proofs.WriteLaws.{left-start, left-more, left-whole}
use Rattle.pciv_disparity.proofs.DisparityLaws.{answer-refused, answer-filled}
use Rattle.pciv_disparity.proofs.fill_table.Goals as goal

pub returns-then-constant-eq0 : goal.returns-then-constant-eq0
returns-then-constant-eq0 c = record { answer = rw c.refuse.ensures (answer-refused c.args.constant c.if-constant-eq0.true) }

pub loop-d-init : goal.loop-d-init
loop-d-init c = left-start _ 256 _

pub loop-d-preserved : goal.loop-d-preserved
loop-d-preserved c = left-more c.loop-d.invariant _ (omega arith) c.distance_of.ensures

pub returns : goal.returns
returns c =
    record {
      answer =
          answer-filled c.args.constant (omega arith) _
          (left-whole c.loop-d.invariant (omega arith) (length-replicate {A = ℕ} 256 0));
    }
