-- Proves pciv_bits::masks::count_bits.
use Rattle.std.proofs.Common.{◌≡◌, ◌+◌, ◌-◌, ◌*◌, ◌∙◌, arith}
use Rattle.pciv_bytes.proofs.SumLaws.{added-part, added-all}
use Rattle.pciv_format.proofs.MaskLaws.{ones-mask_has}
use Rattle.pciv_bits.proofs.masks.count_bits.Goals as goal

pub loop-word-preserved : goal.loop-word-preserved
loop-word-preserved c =
    let l = c.loop-word in
    let i = l.word-index in
    let word = c.count_word-sum.ensures.0 ∙ ones-mask_has c.args.words.now (λ w. (c.type_inv.words w).fits) i in
    let width : 64 * (i + 1) - 64 * i ≡ 64 = omega arith in
    let more = added-part l.invariant.added (64 * (i + 1)) (omega arith) (omega arith) in
    record { few = omega arith; added = rw (width, ← word) at more }

pub returns : goal.returns
returns c = added-all c.loop-word.invariant.added (omega arith)
