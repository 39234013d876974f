-- Proves pciv_bundle_frames::check_lent: the laws of `Passed`, from frame to frame.
use Rattle.std.proofs.Common.{sym, ◌∙◌, arith}
use Rattle.pciv_format.proofs.RefusalsLaws.{passed_on}
use Rattle.pciv_bundle_frames.proofs.LentLaws.{used-length, used-taken}
use Rattle.pciv_bundle_frames.proofs.FramesLaws.{passed_none, passed-more, passed-below, passed-refused, frames-end}
use Rattle.pciv_bundle_frames.proofs.check_lent.Goals as goal

pub loop-f-init : goal.loop-f-init
loop-f-init c = passed_none _ _

pub returns-in_err-other : goal.returns-in_err-other
returns-in_err-other c =
    let a = c.args in
    let many = used-length a.frames.now a.count c.told-frames c.requires in
    passed_on _ _ c.from_residual.ensures.1
    ∙ sym (passed-refused c.loop-f.invariant (omega arith) _
    (rw (← used-taken a.frames.now a.count c.loop-f.f) (sym c.check_next.ensures ∙ c.in_err-other.was)))

pub loop-f-preserved : goal.loop-f-preserved
loop-f-preserved c =
    let a = c.args in
    let many = used-length a.frames.now a.count c.told-frames c.requires in
    passed-more c.loop-f.invariant (omega arith) _
    (rw (← used-taken a.frames.now a.count c.loop-f.f) (sym c.check_next.ensures ∙ c.in_ok-other.was))

pub same_slots-requires : goal.same_slots-requires
same_slots-requires c =
    let a = c.args in
    passed-below c.loop-f.invariant (omega (arith, used-length a.frames.now a.count c.told-frames c.requires))

pub returns : goal.returns
returns c =
    let a = c.args in
    let many = used-length a.frames.now a.count c.told-frames c.requires in
    c.same_slots.ensures ∙ sym (frames-end c.loop-f.invariant (omega arith))
