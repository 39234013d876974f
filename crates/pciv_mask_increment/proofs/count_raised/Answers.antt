-- Proves pciv_mask_increment::count_raised.
use Rattle.std.proofs.Common.{◌*◌, refl, ◌∙◌, length, arith}
use Rattle.pciv_bytes.specs.Ranges.{sum_from}
use Rattle.pciv_mask_increment.proofs.PickedLaws.{below-mask}
use Rattle.pciv_mask_increment.proofs.RaisedLaws.{raised-le, raised-next, word-raised}
use Rattle.pciv_mask_increment.proofs.count_raised.Goals as goal

pub loop-w-init : goal.loop-w-init
unfolding sum_from
loop-w-init c = refl

pub count_word-count-requires : goal.count_word-count-requires
count_word-count-requires c =
    let a = c.args in (
      omega (arith, c.requires.mask.count),
      below-mask (length a.bytes.now) a.words.now (λ w. (c.type_inv.words w).fits) c.requires.mask c.loop-w.w,
    )

pub overflow_add-count : goal.overflow_add-count
overflow_add-count c =
    let a = c.args in
    let w = c.loop-w.w in
    omega (
      arith,
      c.loop-w.invariant,
      raised-le a.bytes.now a.words.now 0 (64 * w),
      c.count_word-count.ensures ∙ word-raised a.bytes.now a.words.now w,
      raised-le a.bytes.now a.words.now (64 * w) 64,
      c.requires.mask.count,
      c.requires.bytes_len_bound,
    )

pub loop-w-preserved : goal.loop-w-preserved
loop-w-preserved c =
    let a = c.args in
    raised-next a.bytes.now a.words.now c.loop-w.w _ _ c.loop-w.invariant
    (c.count_word-count.ensures ∙ word-raised a.bytes.now a.words.now c.loop-w.w)
