-- Proves pciv_arith_merge::joint::put_joint.
use Rattle.std.proofs.Common.{◌+◌, ◌≤◌, ◌<◌, arith}
use Rattle.pciv_format.specs.Layout.{max_slots}
use Rattle.pciv_arith_merge.proofs.CombineLaws.{checked-sound}
use Rattle.pciv_arith_merge.proofs.JointLaws.{joint-start, joint-space, joint-step, joint-more, joint-end}
use Rattle.pciv_arith_merge.proofs.joint.put_joint.Goals as goal
use Rattle.pciv_arith_merge.proofs.joint.put_joint.Goals.{After-meet-met}

-- an entry is left
left : (c : After-meet-met) → c.loop-p.j + c.loop-p.t < c.args.ka + c.args.kb
left c = omega arith

-- what is passed with the slot that is met, and all numbers are small
record Step (c : After-meet-met) : Type 0 where
  more : 1 ≤ c.meet-met.result.first + c.meet-met.result.second
  first : c.loop-p.j + c.meet-met.result.first ≤ c.args.ka
  second : c.loop-p.t + c.meet-met.result.second ≤ c.args.kb
  small : (c.args.ka ≤ c.args.n) × (c.args.kb ≤ c.args.n) × (c.args.n ≤ max_slots)

step : (c : After-meet-met) → Step c
step c =
    let p = c.requires.checked_pair in
    let r = joint-step (checked-sound p c.type_inv.a c.type_inv.b) c.loop-p.invariant.left (left c) c.meet-met.result c.meet-met.ensures in
    record {
      more = r.0;
      first = r.1;
      second = r.2;
      small = (p.first.header.few, p.second.header.few, p.first.header.small);
    }

pub loop-p-init : goal.loop-p-init
loop-p-init c =
    record { left = joint-start _ _ c.args.out.now c.args.from c.requires.kb_in_bounds; first = omega arith; second = omega arith }

pub put_entry-at-requires : goal.put_entry-at-requires
put_entry-at-requires c =
    let z = goal.at.put_entry-at-requires c in
    joint-space (checked-sound c.requires.checked_pair c.type_inv.a c.type_inv.b) c.loop-p.invariant.left (left z.After-meet-met) c.meet-met.result c.meet-met.ensures

pub overflow_add-j : goal.overflow_add-j
overflow_add-j c = omega (arith, step (goal.at.overflow_add-j c).After-meet-met)

pub overflow_add-t : goal.overflow_add-t
overflow_add-t c = omega (arith, step (goal.at.overflow_add-t c).After-meet-met)

pub overflow_mul-p : goal.overflow_mul-p
overflow_mul-p c = omega (arith, step (goal.at.overflow_mul-p c).After-meet-met)

pub overflow_add-p-in-loop-p : goal.overflow_add-p-in-loop-p
overflow_add-p-in-loop-p c = omega (arith, step (goal.at.overflow_add-p-in-loop-p c).After-meet-met)

pub overflow_mul-q : goal.overflow_mul-q
overflow_mul-q c = omega (arith, step (goal.at.overflow_mul-q c).After-meet-met)

pub overflow_add-q : goal.overflow_add-q
overflow_add-q c = omega (arith, step (goal.at.overflow_add-q c).After-meet-met)

pub loop-p-smaller : goal.loop-p-smaller
loop-p-smaller c = omega (arith, (step (goal.at.loop-p-smaller c).After-meet-met).more, c.loop-p-test.true)

pub loop-p-preserved : goal.loop-p-preserved
loop-p-preserved c =
    let z = goal.at.loop-p-preserved c in
    record {
      left = joint-more (checked-sound c.requires.checked_pair c.type_inv.a c.type_inv.b) c.loop-p.invariant.left (left z.After-meet-met) c.meet-met.result c.meet-met.ensures
          _ _ c.put_entry-at.ensures.buffer c.put_entry-at.ensures.next;
      first = omega (arith, c.loop-p.invariant.first);
      second = omega (arith, c.loop-p.invariant.second);
    }

pub returns : goal.returns
returns c =
    joint-end (checked-sound c.requires.checked_pair c.type_inv.a c.type_inv.b) c.loop-p.invariant.left
    (omega (arith, c.loop-p.invariant.first, c.loop-p.invariant.second, c.loop-p-test.false))
