-- Proves pciv_mask_primary::mask_word.
use Rattle.std.proofs.Common.{ℕ, ◌+◌, refl, ap, ◌∙◌, arith}
use Rattle.pciv_bytes.specs.ByteAt.{byte_at}
use Rattle.pciv_bytes.specs.Ranges.{table}
use Rattle.pciv_mask_bytes.proofs.RowLaws.{word-bit}
use Rattle.pciv_mask_bytes.proofs.SlotLaws.{written-one}
use Rattle.pciv_mask_primary.specs.Masked.{masked_byte, masked_word}
use Rattle.pciv_mask_primary.proofs.mask_word.Goals as goal

pub loop-j-init : goal.loop-j-init
unfolding table
loop-j-init c = refl

pub loop-j-preserved : goal.loop-j-preserved
loop-j-preserved c =
    let a = c.args in
    let j = c.loop-j.j in
    let bit = word-bit _ _ a.word j (omega arith) c.put_word.ensures c.loop-j-test.true in
    written-one (masked_word a.op a.file.now (40 + a.i) a.word) (40 + a.i) a.out.now j c.loop-j.invariant _
    (c.masked_byte.ensures ∙ ap (λ (z : ℕ). masked_byte a.op z (byte_at a.file.now (40 + a.i + j))) bit)
