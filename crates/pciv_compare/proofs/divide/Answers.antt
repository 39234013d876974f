-- Proves pciv_compare::divide.
use Rattle.std.proofs.Common.{sym}
use Rattle.pciv_format.proofs.QuotientLaws.{quotient-zero, quotient-over}
use Rattle.pciv_compare.proofs.divide.Goals as goal

pub returns-then-q-eq0 : goal.returns-then-q-eq0
returns-then-q-eq0 c = sym (quotient-zero c.args.p c.args.q c.if-q-eq0.true)

pub returns : goal.returns
returns c = sym (quotient-over c.args.p c.args.q c.if-q-eq0.false)
