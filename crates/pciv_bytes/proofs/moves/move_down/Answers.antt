use Rattle.std.proofs.Common.{arith, ◌∙◌, ◌+◌}
use Rattle.pciv_bytes.proofs.WriteLaws.{copy_within-sets}
use Rattle.pciv_bytes.proofs.moves.move_down.Goals as goal

pub returns : goal.returns
returns c =
    c.copy_within.ensures.after
    ∙ copy_within-sets c.args.out.now (c.args.from + 12) (c.args.to + 12) c.args.from _ (omega arith) (omega arith) (omega arith) (omega arith)
