-- Proves pciv_bundle_frames::row_of: each frame's distance at the slot, in the order of the frames.
use Rattle.std.proofs.Common.{◌≡◌, sym, ap, ◌∙◌, arith, below_more, ℕ, List}
use lib.ListN.{replicate}
use lib.Seq.{length-take-le, get_or-set_same, get_or-set_other}
use Rattle.pciv_format.specs.Layout.{at}
use Rattle.pciv_format.specs.Read.{list_of}
use Rattle.pciv_format.specs.Check.{k_field, CheckedMap}
use Rattle.pciv_format.specs.declared.Located.{Located}
use Rattle.pciv_format.proofs.CheckLaws.{checked-length}
use Rattle.pciv_format.proofs.ReadLaws.{at-list}
use Rattle.pciv_bundle_records.specs.Records.{frames}
use Rattle.pciv_bundle_frames.proofs.FramesLaws.{frame-checked}
use Rattle.pciv_bundle_frames.proofs.RowLaws.{row_at, row-filled}
use Rattle.pciv_bundle_frames.proofs.row_of.Goals as goal
use Rattle.pciv_bundle_frames.proofs.row_of.Goals.{After-frame_at-frame, After-locate}

-- the frame at hand is a checked map
checked : (c : After-frame_at-frame) → (let b = c.frame_at-frame.result.now in CheckedMap b c.args.n (k_field b))
checked c =
    let within = length-take-le {A = ℕ} c.args.count (replicate 8 0) c.requires.count_bound.0 in
    frame-checked (frames c.args.bundle.now) c.args.n c.requires.placed_frames.1 c.loop-f.f (omega arith) _ c.frame_at-frame.ensures

pub get64-requires : goal.get64-requires
get64-requires c = omega (arith, checked-length _ _ _ (checked c))

pub loop-f-preserved : goal.loop-f-preserved
loop-f-preserved c =
    let header = (checked (goal.at.loop-f-preserved c).After-frame_at-frame).header in
    let d : c.locate.result.distance ≡ row_at (frames c.args.bundle.now) c.args.slot c.loop-f.f =
    ap (λ (z : Located). z.distance) c.locate.ensures
    ∙ rw c.get64.ensures (sym (at-list _ _ _ header.n_is header.k_is c.args.slot (omega arith)))
    ∙ ap (λ (b : List ℕ). at (list_of b) c.args.slot) c.frame_at-frame.ensures in
    below_more _ _ (λ g h. let e = get_or-set_other c.loop-f.distance-items c.loop-f.f g c.locate.result.distance 0 (λ q. omega arith) in e ∙ c.loop-f.invariant g h)
    (get_or-set_same c.loop-f.distance-items c.loop-f.f c.locate.result.distance 0 (omega arith) ∙ d)

pub returns : goal.returns
returns c =
    let a = c.args in
    let within = length-take-le {A = ℕ} a.count (replicate 8 0) c.requires.count_bound.0 in
    row-filled (frames a.bundle.now) a.slot c.loop-f.distance-items a.count (omega arith) (omega arith) (omega arith) (λ f h. c.loop-f.invariant f (omega arith))
