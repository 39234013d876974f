-- Proves pciv_arith_add::large::first_too_large: the largest of both come to a distance, or the walk finds the slot.
use Rattle.std.proofs.Common.{arith}
use Rattle.pciv_format.specs.Check.{file_parts}
use Rattle.pciv_arith_add.proofs.LargeLaws.{none-large}
use Rattle.pciv_arith_add.proofs.large.first_too_large.Goals as goal

pub returns-then-most_added-most_in : goal.returns-then-most_added-most_in
returns-then-most_added-most_in c =
    let a = c.args in
    none-large a.of (file_parts a.a.now a.n a.ka) (file_parts a.b.now a.n a.kb) c.most_in.result c.most_added.result
    c.most_in.ensures c.most_added.ensures c.if-most_added-most_in.true (omega arith)
