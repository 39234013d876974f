-- Proves pciv_bundle_nearest::nearest_into.
use Rattle.pciv_bundle_records.specs.Records.{frames}
use Rattle.pciv_bundle_records.proofs.RecordsLaws.{frames-bytes}
use Rattle.pciv_bundle_nearest.proofs.PassesLaws.{nearest-passes}
use Rattle.pciv_bundle_nearest.proofs.nearest_into.Goals as goal

pub returns : goal.returns
returns c =
    let a = c.args in
    nearest-passes (frames a.bundle.now) a.n c.requires.placed_frames.1 (frames-bytes a.bundle.now (λ i. (c.type_inv.bundle i).fits))
    a.out.now _ _ c.requires.count_bound.2 c.nearest_bytes.ensures c.lower_all.ensures
