-- Proves pciv_disparity::front::count_each.
use Rattle.std.proofs.Common.{ℕ, Bool, eqb, length, sym, ◌∙◌, arith}
use Rattle.std.proofs.Math.Nat.{sub-zero}
use Rattle.pciv_bytes.specs.ByteAt.{byte_at}
use Rattle.pciv_bytes.proofs.RangesLaws.{bool_byte-flag, flag-le}
use Rattle.pciv_bytes.proofs.SumLaws.{added_none, added-one, added-all, sum_from-flag-le}
use Rattle.pciv_disparity.proofs.CountLaws.{full_at, each-count}
use Rattle.pciv_disparity.proofs.front.count_each.Goals as goal

pub loop-d-init : goal.loop-d-init
loop-d-init c = rw sub-zero at (added_none (full_at c.args.bytes.now c.args.frame.now) 0 (length c.args.frame.now) (omega arith))

pub overflow_add-count : goal.overflow_add-count
overflow_add-count c =
    let full : ℕ → Bool = λ (i : ℕ). eqb (byte_at c.args.bytes.now (byte_at c.args.frame.now i)) 255 in
    omega (
      arith,
      bool_byte-flag (full c.loop-d.d-index),
      flag-le (full c.loop-d.d-index),
      c.loop-d.invariant.rest,
      sum_from-flag-le full 0 (length c.args.frame.now),
      c.requires.frame_len_bound,
    )

pub loop-d-preserved : goal.loop-d-preserved
loop-d-preserved c = rw bool_byte-flag (added-one c.loop-d.invariant (omega arith))

pub returns : goal.returns
returns c =
    let a = c.args in
    added-all c.loop-d.invariant (omega arith)
    ∙ sym (each-count a.bytes.now a.frame.now c.requires.bytes (length a.frame.now))
