-- Proves pciv_mask_bytes::bits::put_bits: the whole words, then what is left.
use Rattle.std.proofs.Common.{◌≡◌, ◌+◌, ◌-◌, ◌*◌, ◌/◌, ◌%◌, refl, arith}
use Rattle.pciv_bytes.specs.Ranges.{table}
use Rattle.pciv_format.specs.Mask.{mask_value}
use Rattle.pciv_mask_bytes.proofs.RowLaws.{word-slots, last-bits}
use Rattle.pciv_mask_bytes.proofs.SlotLaws.{written-more}
use Rattle.pciv_mask_bytes.proofs.bits.put_bits.Goals as goal

pub loop-w-init : goal.loop-w-init
unfolding table
loop-w-init c = refl

pub loop-w-preserved : goal.loop-w-preserved
loop-w-preserved c =
    written-more (mask_value c.args.words.now) 40 c.args.out.now (64 * c.loop-w.w) c.loop-w.invariant 64 _ c.put_word.ensures (word-slots c.args.words.now c.loop-w.w) (omega arith)

pub returns : goal.returns
returns c =
    let a = c.args in
    let all : c.loop-w.w ≡ a.n / 64 = omega arith in
    let place : 40 + a.n - a.n % 64 ≡ 40 + 64 * c.loop-w.w = omega arith in
    written-more (mask_value c.args.words.now) 40 c.args.out.now (64 * c.loop-w.w) c.loop-w.invariant (a.n % 64) a.n (rw place at c.copy_bytes.ensures)
    (last-bits _ a.words.now a.n c.loop-w.w c.last_bits-bits.ensures all) (omega arith)
