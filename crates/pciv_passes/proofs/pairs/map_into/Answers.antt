use Rattle.std.proofs.Common.{arith, sym, ◌∙◌, length}
use Rattle.pciv_bytes.proofs.WriteLaws.{sets-table-more, sets-table-end}
use Rattle.pciv_passes.specs.Pairs.{one_at}
use Rattle.pciv_passes.proofs.pairs.map_into.Goals as goal

pub loop-i-preserved : goal.loop-i-preserved
loop-i-preserved c =
    rw c.byte_op.ensures
    (c.loop-i.invariant
    ∙ sets-table-more (one_at c.args.op c.args.a.now c.args.x) c.args.at (length c.args.a.now) c.loop-i.i c.loop-i.out (omega arith))

pub returns : goal.returns
returns c =
    sym
    (c.loop-i.invariant
    ∙ sets-table-end (one_at c.args.op c.args.a.now c.args.x) c.args.at (length c.args.a.now) c.loop-i.i c.loop-i.out (omega arith))
