-- Proves pciv_repair::rebuild: refusal 12 for the list, then as writing the file ends.
use Rattle.std.proofs.Common.{◌*◌, ◌≤◌, length, ◌∙◌, arith}
use Rattle.pciv_format.proofs.RefusalsLaws.{passed_on}
use Rattle.pciv_repair.specs.Repair.{corrections}
use Rattle.pciv_repair.proofs.CountLaws.{lines-few}
use Rattle.pciv_repair.proofs.OutcomeLaws.{ends-unlisted, ends-refused, ends-done, stands}
use Rattle.pciv_repair.proofs.rebuild.Goals as goal
use Rattle.pciv_repair.proofs.rebuild.Goals.{After-put_repaired}

-- the list holds every change
listed : (c : After-put_repaired)
    → 4 * length (corrections c.args.file.now c.args.n c.args.k) ≤ length c.args.list.now
listed c = omega (arith, c.if-list-lines.false, c.count_lines-lines.ensures)

pub overflow_mul-lines : goal.overflow_mul-lines
overflow_mul-lines c =
    let p = c.requires in
    omega (arith, c.count_lines-lines.ensures, lines-few _ _ _ (λ i. (c.type_inv.file i).fits) p, p.few, p.small)

pub returns-then-list-lines : goal.returns-then-list-lines
returns-then-list-lines c =
    let a = c.args in
    let e =
    ends-unlisted a.file.now a.n a.k a.out.now a.list.now c.requires _ c.refuse.ensures
    (omega (arith, c.if-list-lines.true, c.count_lines-lines.ensures)) in
    record { answer = e.0; buffer = e.1.0; list = e.1.1 }

pub put_lines-requires-clause-value : goal.put_lines-requires-clause-value
put_lines-requires-clause-value c =
    let a = c.args in
    stands a.file.now a.n a.k a.out.now a.list.now c.requires (listed (goal.at.put_lines-requires-clause-value c).After-put_repaired)
    _ _ c.put_repaired.ensures.answer c.put_repaired.ensures.buffer _ c.in_ok-summary.was

pub returns-in_err-summary : goal.returns-in_err-summary
returns-in_err-summary c =
    let a = c.args in
    let e =
    ends-refused a.file.now a.n a.k a.out.now a.list.now c.requires (listed (goal.at.returns-in_err-summary c).After-put_repaired)
    _ _ c.put_repaired.ensures.answer c.put_repaired.ensures.buffer _ c.in_err-summary.was in
    record { answer = passed_on _ _ c.from_residual.ensures.1 ∙ e.0; buffer = e.1.0; list = e.1.1 }

pub returns : goal.returns
returns c =
    let a = c.args in
    let e =
    ends-done a.file.now a.n a.k a.out.now a.list.now c.requires (listed (goal.at.returns c).After-put_repaired)
    _ _ c.put_repaired.ensures.answer c.put_repaired.ensures.buffer _ c.in_ok-summary.was _ c.put_lines.ensures
    c.count_lines-lines.result c.count_lines-lines.ensures in
    record { answer = e.0; buffer = e.1.0; list = e.1.1 }
