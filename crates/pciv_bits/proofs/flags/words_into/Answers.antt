-- Proves pciv_bits::flags::words_into.
use Rattle.std.proofs.Common.{◌≡◌, ℕ, ◌+◌, ◌-◌, ◌*◌, Bool, length, refl, ◌∙◌, arith}
use Rattle.pciv_bytes.proofs.WriteLaws.{left-more}
use Rattle.pciv_bits.specs.Flags.{flag_at}
use Rattle.pciv_bits.proofs.WordLaws.{mask_word-is, left-two, left-mask}
use Rattle.pciv_bits.proofs.flags.words_into.Goals as goal

pub loop-p-preserved : goal.loop-p-preserved
loop-p-preserved c =
    let a = c.args in
    let n : ℕ = length a.a.now in
    let q : ℕ → Bool = flag_at a.a.now a.test a.negated in
    let p : ℕ = c.loop-p.p in
    let pair = c.full_words-pair in
    let e = pair.ensures.0 ∙ mask_word-is n q (2 * p) (128 * p) 64 (omega arith) (omega arith) in
    let f = pair.ensures.1 ∙ mask_word-is n q (2 * p + 1) (128 * p + 64) 64 (omega arith) (omega arith) in
    let two : 2 * (p + 1) ≡ 2 * p + 2 = omega arith in
    rw two (left-two c.loop-p.invariant pair.result.first pair.result.second (omega arith) e f)

pub loop-w-preserved : goal.loop-w-preserved
loop-w-preserved c =
    let a = c.args in
    let w : ℕ = c.loop-w.w in
    let e = c.part_word.ensures
    ∙ mask_word-is (length a.a.now) (flag_at a.a.now a.test a.negated) w (64 * w) (c.min.result - 64 * w) refl (omega arith) in
    left-more c.loop-w.invariant c.part_word.result (omega arith) e

pub returns : goal.returns
returns c =
    let a = c.args in
    left-mask (length a.a.now) (flag_at a.a.now a.test a.negated) a.out.now c.loop-w.out c.loop-w.w c.loop-w.invariant
    (omega arith)
