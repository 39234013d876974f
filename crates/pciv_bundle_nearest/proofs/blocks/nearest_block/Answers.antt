-- Proves pciv_bundle_nearest::blocks::nearest_block: each frame's turn, then the block's distances.
use Rattle.std.proofs.Common.{◌+◌, ◌≤◌, length, ap, ◌∙◌, arith}
use native.Mathlib.Nat.{add-sub_cancel_left}
use lib.ListN.{get_or-replicate}
use lib.Seq.{sets}
use Rattle.pciv_format.specs.Check.{k_field, CheckedMap}
use Rattle.pciv_format.proofs.MapLaws.{primary-inside}
use Rattle.pciv_bundle_records.specs.Records.{frames}
use Rattle.pciv_bundle_frames.proofs.FramesLaws.{frame-checked}
use Rattle.pciv_bundle_nearest.proofs.ChangedLaws.{turns_more, turns-end}
use Rattle.pciv_bundle_nearest.proofs.BlockLaws.{bytes-turn, raised-block}
use Rattle.pciv_bundle_nearest.proofs.blocks.nearest_block.Goals as goal
use Rattle.pciv_bundle_nearest.proofs.blocks.nearest_block.Goals.{After-frame_at-frame}

-- the block lies within the frame, which is a checked map
inside : (c : After-frame_at-frame) → (let a = c.args in 40 + a.start + a.len ≤ length c.frame_at-frame.result.now)
inside c =
    let a = c.args in
    let checked : CheckedMap c.frame_at-frame.result.now a.n (k_field c.frame_at-frame.result.now) =
    frame-checked (frames a.bundle.now) a.n c.requires.placed_frames.1 c.loop-f.f (omega arith) _ c.frame_at-frame.ensures in
    omega (arith, primary-inside _ _ _ checked)

pub slice_bounds-lower_block-end : goal.slice_bounds-lower_block-end
slice_bounds-lower_block-end c = inside (goal.at.slice_bounds-lower_block-end c).After-frame_at-frame

pub loop-f-preserved : goal.loop-f-preserved
loop-f-preserved c =
    let a = c.args in
    let turn = bytes-turn c.frame_at-frame.result.now _ c.frame_at-frame.ensures a.start a.len _ (inside (goal.at.loop-f-preserved c).After-frame_at-frame)
    (add-sub_cancel_left (40 + a.start) a.len) c.lower_block.ensures in
    turns_more c.loop-f.invariant _ (omega arith) turn

pub returns : goal.returns
returns c =
    let a = c.args in
    c.raise_block.ensures
    ∙ ap (sets a.out.now a.start)
    (raised-block (frames a.bundle.now) a.start a.len (turns-end c.loop-f.invariant (omega arith))
    (λ i h. get_or-replicate 4096 i 255 0 (omega arith)))
