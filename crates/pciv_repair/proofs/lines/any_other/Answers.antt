-- Proves pciv_repair::lines::any_other.
use Rattle.std.proofs.Common.{ℕ, not, get_or, eqb, sym, ◌∙◌, arith}
use Rattle.pciv_bytes.proofs.AnyLaws.{any_from-more, any_from-end}
use Rattle.pciv_repair.proofs.lines.any_other.Goals as goal

pub loop-i-preserved : goal.loop-i-preserved
loop-i-preserved c =
    let l = c.loop-i in
    sym (any_from-more (λ (j : ℕ). not (eqb (get_or c.args.a.now j 0) (get_or c.args.b.now j 0))) l.found l.i c.args.to (omega arith))
    ∙ l.invariant

pub returns : goal.returns
returns c =
    let l = c.loop-i in
    sym (any_from-end (λ (j : ℕ). not (eqb (get_or c.args.a.now j 0) (get_or c.args.b.now j 0))) l.found l.i c.args.to (omega arith))
    ∙ l.invariant
