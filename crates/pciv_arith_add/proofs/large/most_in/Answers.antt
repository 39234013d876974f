-- Proves pciv_arith_add::large::most_in.
use Rattle.std.proofs.Common.{◌+◌, arith}
use Rattle.pciv_format.specs.Check.{file_parts}
use Rattle.pciv_format.proofs.MapLaws.{entry-inside}
use Rattle.pciv_arith_add.proofs.LargeLaws.{most-all}
use Rattle.pciv_arith_add.proofs.large.most_in.Goals as goal

pub entry_distance-requires : goal.entry_distance-requires
entry_distance-requires c = entry-inside c.args.file.now c.args.n c.args.k c.requires c.loop-j.j (omega arith)

pub returns : goal.returns
returns c =
    most-all (file_parts c.args.file.now c.args.n c.args.k) c.requires.parts (λ i. (c.type_inv.file (40 + i)).fits) c.loop-j.j
    c.loop-j.most c.loop-j.invariant (omega arith)
