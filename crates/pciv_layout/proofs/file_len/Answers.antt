-- Proves pciv_layout::file_len. The sums fit, since the index is no longer than twice k.
use Rattle.std.proofs.Common.{◌*◌, ◌≤◌, arith}
use Rattle.pciv_format.proofs.LayoutLaws.{index_step-le, index_len-le, file_len-is}
use Rattle.pciv_layout.proofs.file_len.Goals as goal
use Rattle.pciv_layout.proofs.file_len.Goals.{After-index_len}

long : (c : After-index_len) → c.index_len.result ≤ 2 * c.args.k
long c = omega (arith, index_len-le c.args.k, index_step-le c.args.k)

pub overflow_mul-result-2 : goal.overflow_mul-result-2
overflow_mul-result-2 c = omega (arith, long (goal.at.overflow_mul-result-2 c).After-index_len)

pub overflow_add-result-3 : goal.overflow_add-result-3
overflow_add-result-3 c = omega (arith, long (goal.at.overflow_add-result-3 c).After-index_len)

pub returns : goal.returns
returns c = omega (arith, file_len-is c.args.n c.args.k)
