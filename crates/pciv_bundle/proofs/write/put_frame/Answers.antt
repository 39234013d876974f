-- Proves pciv_bundle::write::put_frame: a record's length, its kind, its payload.
use Rattle.pciv_bundle.proofs.BundleBytesLaws.{sets-record}
use Rattle.pciv_bundle.proofs.write.put_frame.Goals as goal

pub returns : goal.returns
returns c =
    let a = c.args in
    sets-record a.out.now a.at 1 a.frame.now _ _ _ c.put32.ensures c.put16.ensures c.copy_bytes.ensures
