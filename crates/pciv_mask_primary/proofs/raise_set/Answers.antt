-- Proves pciv_mask_primary::raise_set.
use Rattle.std.proofs.Common.{◌≡◌, ℕ, List, sym, ap, ◌∙◌, arith}
use Rattle.std.proofs.lemmas.List.Edits.{sets}
use Rattle.pciv_bytes.specs.Ranges.{table}
use Rattle.pciv_format.proofs.BitLaws.{trailing_lt}
use Rattle.pciv_mask_primary.specs.Masked.{masked_word}
use Rattle.pciv_mask_primary.specs.declared.MaskedOp.TheVariants.{Increment}
use Rattle.pciv_mask_primary.proofs.ByteLaws.{bytes-set, raised-lowest, raised-none}
use Rattle.pciv_mask_primary.proofs.raise_set.Goals as goal

pub loop-rest-preserved : goal.loop-rest-preserved
loop-rest-preserved c =
    let l = c.loop-rest in
    let step = raised-lowest l.out c.args.at l.rest c.loop-rest-test.true (omega arith) (omega arith) in
    let inside = trailing_lt 64 l.rest c.loop-rest-test.true (omega arith) in (
      bytes-set l.out _ _ (omega (arith, inside)) l.invariant.0 (omega (arith, c.masked_byte.ensures)),
      l.invariant.1 ∙ step ∙ rw c.masked_byte.ensures,
    )

pub returns : goal.returns
returns c =
    let a = c.args in
    let l = c.loop-rest in
    let none : l.rest ≡ 0 = omega arith in
    let raised : ℕ → List ℕ = λ x. sets l.out a.at (table (masked_word Increment l.out a.at x) 0 64) in
    sym (l.invariant.1 ∙ ap raised none ∙ raised-none l.out a.at l.invariant.0)
