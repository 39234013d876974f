-- Proves pciv_mask_bytes::bits::put_word.
use Rattle.std.proofs.Common.{ℕ, ◌≡◌, ◌*◌, refl, ap, ◌∙◌, arith}
use Rattle.std.proofs.lemmas.List.Edits.{sets}
use Rattle.pciv_bytes.specs.Ranges.{table}
use Rattle.pciv_format.specs.Mask.{bit_at, bits_row}
use Rattle.pciv_mask_bytes.proofs.RowLaws.{row-of-word}
use Rattle.pciv_mask_bytes.proofs.SlotLaws.{written-more}
use Rattle.pciv_mask_bytes.proofs.bits.put_word.Goals as goal

pub loop-row-init : goal.loop-row-init
unfolding table
loop-row-init c = refl

pub loop-row-preserved : goal.loop-row-preserved
loop-row-preserved c =
    written-more (bit_at c.args.word) c.args.at c.args.out.now (8 * c.loop-row.row) c.loop-row.invariant 8 _ c.put_row.ensures
    (ap bits_row c.eight_bits.ensures ∙ row-of-word c.args.word (8 * c.loop-row.row)) (omega arith)

pub returns : goal.returns
returns c =
    let all : 8 * c.loop-row.row ≡ 64 = omega arith in
    c.loop-row.invariant ∙ ap (λ (i : ℕ). sets c.args.out.now c.args.at (table (bit_at c.args.word) 0 i)) all
