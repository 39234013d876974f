-- Proves pciv_mask_logic::flip_words: the words that the slots fill, then the last one.
use Rattle.std.proofs.Common.{◌≡◌, ◌/◌, arith}
use Rattle.pciv_bytes.proofs.WriteLaws.{left-more, left_end}
use Rattle.pciv_mask_logic.proofs.LogicLaws.{flip-full, flip-last}
use Rattle.pciv_mask_logic.proofs.flip_words.Goals as goal

pub loop-i-preserved : goal.loop-i-preserved
loop-i-preserved c =
    let a = c.args in
    left-more c.loop-i.invariant _ (omega arith) (flip-full a.n a.words.now c.loop-i.i (omega arith))

pub returns-then-full-words : goal.returns-then-full-words
returns-then-full-words c =
    let a = c.args in
    let full : c.loop-i.i ≡ a.n / 64 = omega arith in
    rw (← full)
    (left_end (left-more c.loop-i.invariant _ (omega arith) (flip-last a.n a.words.now c.loop-i.i full)) (omega arith))

pub returns-else-full-words : goal.returns-else-full-words
returns-else-full-words c = left_end c.loop-i.invariant (omega arith)
