-- Proves pciv_c_cells::header_k.
use native.Mathlib.Omega.{arith}
use borrow.Author.Rules.{rules}
use Rattle.pciv_c_cells.proofs.header_k.Statement.{statement}
use Rattle.pciv_c_cells.proofs.header_k.Tie as tie

returns-then-file-lt-HEADER_LEN : tie.Need-returns-then-file-lt-HEADER_LEN
returns-then-file-lt-HEADER_LEN c long = absurd (omega arith)

get64-requires : tie.Need-get64-requires
get64-requires c κs = search rules

returns : tie.Need-returns
returns c long = c.get64.ensures

pub header_k_spec : {M : Type 1} → statement M
header_k_spec = tie.close (tie.spec returns-then-file-lt-HEADER_LEN get64-requires returns)
