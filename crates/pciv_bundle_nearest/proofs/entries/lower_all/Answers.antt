-- Proves pciv_bundle_nearest::entries::lower_all: one frame's turn after another.
use Rattle.std.proofs.Common.{arith}
use Rattle.pciv_format.specs.Check.{k_field, CheckedMap}
use Rattle.pciv_format.proofs.MapLaws.{primary-inside}
use Rattle.pciv_bundle_records.specs.Records.{frames}
use Rattle.pciv_bundle_frames.proofs.FramesLaws.{frame-checked}
use Rattle.pciv_bundle_nearest.proofs.entries.lower_all.Goals as goal
use Rattle.pciv_bundle_nearest.proofs.entries.lower_all.Goals.{After-frame_at-frame}

-- the frame is a checked map
checked : (c : After-frame_at-frame) → (let b = c.frame_at-frame.result.now in CheckedMap b c.args.n (k_field b))
checked c =
    frame-checked (frames c.args.bundle.now) c.args.n c.requires.placed_frames.1 c.loop-f.f (omega arith) _ c.frame_at-frame.ensures

pub get64-requires : goal.get64-requires
get64-requires c = omega (arith, primary-inside _ _ _ (checked c))
