-- Proves pciv_c_cells::origin_number.
use borrow.Author.Rules.{rules}
use Rattle.pciv_c_cells.proofs.origin_number.Statement.{statement}
use Rattle.pciv_c_cells.proofs.origin_number.Tie as tie

enum_told-1 : tie.Need-enum_told-1
enum_told-1 c = search rules

enum_known-origin : tie.Need-enum_known-origin
enum_known-origin c = search rules

returns-in-Inline : tie.Need-returns-in-Inline
returns-in-Inline c = search rules

returns-in-Overflow : tie.Need-returns-in-Overflow
returns-in-Overflow c = search rules

pub origin_number_spec : {M : Type 1} → statement M
origin_number_spec = tie.close (tie.spec enum_told-1 enum_known-origin returns-in-Inline returns-in-Overflow)
