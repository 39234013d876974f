-- Proves pciv_bundle::write::put_header: four numbers, one after another.
use Rattle.pciv_bundle.proofs.BundleBytesLaws.{sets-header}
use Rattle.pciv_bundle.proofs.write.put_header.Goals as goal

pub returns : goal.returns
returns c =
    let a = c.args in
    sets-header a.out.now a.n a.count _ _ _ _ c.put32.ensures c.put16.ensures c.put32-2.ensures c.put16-2.ensures
