-- Proves pciv_read::sum: the check's sixth number.
use Rattle.std.proofs.Common.{sym, ◌∙◌}
use Rattle.pciv_format.proofs.RefusalsLaws.{passed_on}
use Rattle.pciv_format.proofs.ReadCaseLaws.{sum-refused}
use Rattle.pciv_format.proofs.SummaryLaws.{counts-refuse-alike, check-sum}
use Rattle.pciv_read.proofs.sum.Goals as goal

pub returns-in_err-summary : goal.returns-in_err-summary
returns-in_err-summary c =
    let why = ((counts-refuse-alike 1 _).0 _).0 (sym c.in_err-summary.ensures.answer) in
    record { answer = passed_on _ _ c.from_residual.ensures.1 ∙ sym (sum-refused _ _ why) }

pub returns : goal.returns
returns c = record { answer = sym (check-sum _ _ (sym c.in_ok-summary.ensures.answer)) }
