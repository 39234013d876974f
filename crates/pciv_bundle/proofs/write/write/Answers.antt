-- Proves pciv_bundle::write::write: one law for each answer.
use Rattle.std.proofs.Common.{ℕ, ◌≡◌, ◌≤◌, Ok, length, take, sym, subst, ap, ◌∙◌, arith}
use lib.Seq.{length-take-le}
use Rattle.pciv_format.specs.declared.RefusalKind.TheVariants.{BadBundle}
use Rattle.pciv_format.specs.Refusals.{refuse}
use Rattle.pciv_format.proofs.RefusalsLaws.{passed_on}
use Rattle.pciv_bundle_records.specs.Records.{bundle_of}
use Rattle.pciv_bundle_frames.specs.Frames.{frames_outcome}
use Rattle.pciv_bundle_frames.proofs.LentLaws.{lent, lent-at, used, used-lent, used-length}
use Rattle.pciv_bundle.specs.Bundle.{used_slots, ShortFrames, bundle_write_outcome, bundle_write_buffer}
use Rattle.pciv_bundle.proofs.BundleCaseLaws.{write-none, write-many, write-slots, write-refused}
use Rattle.pciv_bundle.proofs.BundleCaseLaws.{write-n, write-frames, write-short, write_done, write-buffer}
use Rattle.pciv_bundle.proofs.write.write.Goals as goal
use Rattle.pciv_bundle.proofs.write.write.Goals.{then-count-lt1-via-then-count-lt1, then-count-lt1-via-else-count-lt1+then-has_many}
use Rattle.pciv_bundle.proofs.write.write.Goals.{After-check_lent, After-bundle_len-len}

-- the check of the frames against the n that is read of the first, and so against its n
checked : (c : After-check_lent) → (let a = c.args in
    let fs = lent a.frames.now in
    c.check_lent.result ≡ frames_outcome (used_slots fs) (take a.count fs))
checked c =
    let a = c.args in
    c.check_lent.ensures
    ∙ write-slots (lent a.frames.now) a.count (omega arith) (omega arith) _
    (used-length a.frames.now a.count c.told-frames (omega arith))
    (rw lent-at at c.slots_of.ensures)

-- the frames that are used, as a slice
short : (c : After-check_lent) → (let a = c.args in
    (n : ℕ) → c.check_lent.result ≡ Ok n
    → (let part = take a.count a.frames.now in (length part ≤ 8) × ShortFrames (lent part)))
short c n e =
    let a = c.args in
    let many = length-take-le a.count a.frames.now (omega arith) in (
      omega (arith, many),
      subst ShortFrames (used-lent a.frames.now a.count)
          (write-frames (lent a.frames.now) a.count (omega arith) (omega arith) n (sym (checked c) ∙ e)),
    )

-- the length of their bundle
long : (c : After-bundle_len-len)
    → (let a = c.args in c.bundle_len-len.result ≡ length (bundle_of c.in_ok-n.n (used a.frames.now a.count)))
long c = let a = c.args in rw used-lent (c.bundle_len-len.ensures c.in_ok-n.n)

pub returns-then-count-lt1 : goal.returns-then-count-lt1
unfolding bundle_write_buffer
returns-then-count-lt1 c =
    let a = c.args in
    let fs = lent a.frames.now in
    let no : bundle_write_outcome fs a.count (length a.out.now) ≡ refuse BadBundle 0 0 =
    elim c.then-count-lt1.branch [
      | then-count-lt1-via-then-count-lt1 w ↦ write-none fs a.count (length a.out.now) w.if-count-lt1.true
      | then-count-lt1-via-else-count-lt1+then-has_many w ↦ write-many fs a.count (length a.out.now) w.if-has_many.true
    ] in
    record { answer = c.refuse.ensures ∙ sym no; buffer = rw no }

pub returns-in_err-n : goal.returns-in_err-n
unfolding bundle_write_buffer
returns-in_err-n c =
    let a = c.args in
    let e = sym (checked (goal.at.returns-in_err-n c).After-check_lent) ∙ c.in_err-n.was in
    let no = write-refused (lent a.frames.now) a.count (omega arith) (omega arith) (length a.out.now) _ e in
    record { answer = passed_on _ _ c.from_residual.ensures.1 ∙ sym no; buffer = rw no }

pub bundle_len-len-requires : goal.bundle_len-len-requires
bundle_len-len-requires c = short (goal.at.bundle_len-len-requires c).After-check_lent _ c.in_ok-n.was

pub returns-then-out-len : goal.returns-then-out-len
unfolding bundle_write_buffer
returns-then-out-len c =
    let a = c.args in
    let z = goal.at.returns-then-out-len c in
    let no = write-short (lent a.frames.now) a.count (omega arith) (omega arith) _
    (sym (checked z.After-check_lent) ∙ c.in_ok-n.was) (length a.out.now) (omega (arith, long z.After-bundle_len-len)) in
    record { answer = c.refuse-then-out-len.ensures ∙ sym no; buffer = rw no }

pub put_bundle-requires : goal.put_bundle-requires
put_bundle-requires c =
    let a = c.args in
    let z = goal.at.put_bundle-requires c in
    record {
      short_frames = short z.After-check_lent _ c.in_ok-n.was;
      n_bound = (
        write-n (lent a.frames.now) a.count (omega arith) (omega arith) _
            (sym (checked z.After-check_lent) ∙ c.in_ok-n.was)
            (used-length a.frames.now a.count c.told-frames (omega arith)),
        omega (arith, c.bundle_len-len.ensures c.in_ok-n.n),
      );
    }

pub returns : goal.returns
returns c =
    let a = c.args in
    let fs = lent a.frames.now in
    let z = goal.at.returns c in
    let n = c.in_ok-n.n in
    let e = sym (checked z.After-check_lent) ∙ c.in_ok-n.was in
    let len = long z.After-bundle_len-len in
    let space : length (bundle_of n (take a.count fs)) ≤ length a.out.now = omega (arith, len) in
    record {
      answer = ap Ok len ∙ sym (write_done fs a.count (omega arith) (omega arith) n e (length a.out.now) space);
      buffer = rw (← used-lent) at c.put_bundle.ensures
          ∙ write-buffer fs a.count (omega arith) (omega arith) n e a.out.now space;
    }
