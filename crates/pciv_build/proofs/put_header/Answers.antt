-- Proves pciv_build::put_header: five numbers, one after the other.
use Rattle.pciv_build.proofs.BuildLaws.{sets-header}
use Rattle.pciv_build.proofs.put_header.Goals as goal

pub returns : goal.returns
returns c =
    sets-header c.args.n c.args.k _ _ c.args.out.now _ _ _ _ _ c.index_len.ensures c.index_step.ensures
    c.put64.ensures c.put64-2.ensures c.put64-3.ensures c.put64-4.ensures c.put64-5.ensures
