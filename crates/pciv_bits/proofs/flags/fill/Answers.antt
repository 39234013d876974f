-- Proves pciv_bits::flags::fill: the words that the slots fill, and then the last one.
use Rattle.std.proofs.Common.{ℕ, ◌+◌, ◌*◌, ◌/◌, ◌%◌, ◌++◌, Bool, drop, replicate, refl, sym, ap, ◌∙◌, arith}
use lib.Seq.{length-take-le}
use Rattle.pciv_bytes.proofs.WriteLaws.{Left, left-more}
use Rattle.pciv_format.specs.Mask.{mask_len}
use Rattle.pciv_format.proofs.MaskLaws.{mask_word}
use Rattle.pciv_bits.proofs.WordLaws.{word-alike, words-alike, mask_word-is, left-mask}
use Rattle.pciv_bits.proofs.flags.fill.Goals as goal
use Rattle.pciv_bits.proofs.flags.fill.Goals.{After-fill}

abbrev alike : Bool → ℕ → Bool
alike bit i = bit

-- the words that the slots fill are written
filled : (c : After-fill)
    → Left (mask_word c.args.n (alike c.args.bit)) (mask_len c.args.n) c.args.out.now
    (c.fill.new.self ++ drop (c.args.n / 64) c.args.out.now) (c.args.n / 64)
filled c =
    let a = c.args in
    words-alike (mask_word a.n (alike a.bit)) (mask_len a.n) c.uniform.result (a.n / 64) a.out.now c.fill.new.self
    (omega arith) (omega arith)
    (λ w h. sym (c.uniform.ensures ∙ word-alike a.bit (64 * w) 64 ∙ mask_word-is a.n (alike a.bit) w (64 * w) 64 refl (omega arith)))
    (c.fill.ensures.after (λ y e. e)
    ∙ ap (λ (k : ℕ). replicate k c.uniform.result) (length-take-le (a.n / 64) a.out.now (omega arith)))

pub returns-then-tail-gt0 : goal.returns-then-tail-gt0
returns-then-tail-gt0 c =
    let a = c.args in
    let p = alike a.bit in
    let w : ℕ = a.n / 64 in
    let x = c.uniform-then-tail-gt0 in
    let e = x.ensures ∙ word-alike a.bit (64 * w) (a.n % 64) ∙ mask_word-is a.n p w (64 * w) (a.n % 64) refl (omega arith) in
    left-mask a.n p a.out.now _ (w + 1)
    (left-more (filled (goal.at.returns-then-tail-gt0 c).After-fill) x.result (omega arith) e) (omega arith)

pub returns-else-tail-gt0 : goal.returns-else-tail-gt0
returns-else-tail-gt0 c =
    let a = c.args in
    left-mask a.n (alike a.bit) a.out.now _ (a.n / 64) (filled (goal.at.returns-else-tail-gt0 c).After-fill) (omega arith)
