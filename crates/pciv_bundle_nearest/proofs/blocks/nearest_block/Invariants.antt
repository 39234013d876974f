-- The loop of nearest_block: lowering the block by every frame from the start on equals lowering it by the frames from f on.
use Rattle.std.proofs.Common.{ℕ, ◌+◌}
use Rattle.pciv_bundle_records.specs.Records.{frames}
use Rattle.pciv_bundle_nearest.specs.Passes.{byte_step}
use Rattle.pciv_bundle_nearest.proofs.ChangedLaws.{Turns}
use Rattle.pciv_bundle_nearest.proofs.blocks.nearest_block.Given as goal

abbrev pub invariant-loop-f : goal.invariant-loop-f
invariant-loop-f l = Turns (λ (i : ℕ). byte_step (l.start + i)) (frames l.bundle) l.len l.initial.least l.least l.f
