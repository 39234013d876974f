use Rattle.std.proofs.Common.{arith, ◌∙◌, ◌+◌}
use Rattle.pciv_bytes.proofs.WriteLaws.{copy_within-sets}
use Rattle.pciv_bytes.proofs.moves.move_up.Goals as goal

pub returns : goal.returns
returns c =
    c.copy_within.ensures.after
    ∙ copy_within-sets c.args.out.now c.args.from c.args.to (c.args.from + 12) _ (omega arith) (omega arith) (omega arith) (omega arith)
