-- The loop of nearest_bytes: writing the distances of all slots is writing those from slot `start` on.
use Rattle.pciv_bytes.proofs.WriteLaws.{Left}
use Rattle.pciv_bundle_records.specs.Records.{frames}
use Rattle.pciv_bundle_nearest.specs.Passes.{nearest_byte}
use Rattle.pciv_bundle_nearest.proofs.blocks.nearest_bytes.Given as goal

abbrev pub invariant-loop-start : goal.invariant-loop-start
invariant-loop-start l = Left (nearest_byte (frames l.bundle)) l.n l.initial.out l.out l.start
