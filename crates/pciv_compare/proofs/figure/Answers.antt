-- Proves pciv_compare::figure: the check of both maps, then the weights, then the quotient.
use Rattle.std.proofs.Common.{Ok, ◌≤◌, ◌+◌, ◌-◌, ◌^◌, sym, ap, ◌∙◌, arith}
use Rattle.pciv_format.specs.Figures.{quotient}
use Rattle.pciv_format.proofs.RefusalsLaws.{passed_on}
use Rattle.pciv_check.proofs.PairLaws.{pair-checked}
use Rattle.pciv_compare.specs.Figure.{divisor_of}
use Rattle.pciv_compare.proofs.FigureLaws.{parts-fit, figure-refused, figure-ready}
use Rattle.pciv_compare.proofs.figure.Goals as goal
use Rattle.pciv_compare.proofs.figure.Goals.{After-weigh-sums}

-- the parts of the quotient are in order, and not above 2 ^ 53
fit : (c : After-weigh-sums)
    → (let r = c.weigh-sums.result in
    (r.least ≤ r.most) × (r.least + r.most ≤ 2 ^ 53) × (divisor_of c.args.of r.least r.most ≤ 2 ^ 53))
fit c =
    let a = c.args in
    parts-fit a.a.now a.b.now _ _ _ (pair-checked _ _ _ (sym c.in_ok-pair.ensures.answer)) c.weigh-sums.result
    (λ j. (c.type_inv.a j).fits) (λ j. (c.type_inv.b j).fits) a.of c.weigh-sums.ensures

pub returns-in_err-pair : goal.returns-in_err-pair
returns-in_err-pair c =
    passed_on _ _ c.from_residual.ensures.1
    ∙ sym (figure-refused c.args.of c.args.a.now c.args.b.now _ (sym c.in_err-pair.ensures.answer))

pub weigh-sums-requires : goal.weigh-sums-requires
weigh-sums-requires c = pair-checked _ _ _ (sym c.in_ok-pair.ensures.answer)

pub divisor-q-requires : goal.divisor-q-requires
divisor-q-requires c = (fit (goal.at.divisor-q-requires c).After-weigh-sums).1

pub overflow_sub-most : goal.overflow_sub-most
overflow_sub-most c = omega (arith, (fit (goal.at.overflow_sub-most c).After-weigh-sums).0)

pub divide-requires : goal.divide-requires
divide-requires c =
    let all = fit (goal.at.divide-requires c).After-weigh-sums in
    (omega (arith, all.1), omega (arith, all.2, c.divisor-q.ensures))

pub returns : goal.returns
returns c =
    let r = c.weigh-sums.result in
    ap Ok (c.divide.ensures ∙ ap (quotient (r.most - r.least)) c.divisor-q.ensures)
    ∙ sym (figure-ready c.args.of c.args.a.now c.args.b.now _ (sym c.in_ok-pair.ensures.answer) r c.weigh-sums.ensures)
