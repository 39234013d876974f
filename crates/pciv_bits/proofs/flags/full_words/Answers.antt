-- Proves pciv_bits::flags::full_words.
use Rattle.std.proofs.Common.{◌≡◌, ℕ, ◌+◌, Bool, ◌∙◌, arith}
use Rattle.pciv_format.specs.Mask.{word}
use Rattle.pciv_bits.specs.Flags.{is_met}
use Rattle.pciv_bits.proofs.GatherLaws.{gathered-word}
use Rattle.pciv_bits.proofs.WordLaws.{word-flip}
use Rattle.pciv_bits.proofs.flags.full_words.Goals as goal

pub returns : goal.returns
returns c =
    let a = c.args in
    let p : ℕ → Bool = is_met a.a.now a.test in
    let e : c.transpose.result ≡ word p a.i 64 =
    gathered-word p a.i _ _ c.gather-gathered.ensures.0 (omega arith) c.transpose.ensures in
    let f : c.transpose-2.result ≡ word p (a.i + 64) 64 =
    gathered-word p (a.i + 64) _ _ c.gather-gathered.ensures.1 (omega arith) c.transpose-2.ensures in (
      c.flip_if.ensures ∙ rw e (word-flip a.negated p a.i 64),
      c.flip_if-2.ensures ∙ rw f (word-flip a.negated p (a.i + 64) 64),
    )
