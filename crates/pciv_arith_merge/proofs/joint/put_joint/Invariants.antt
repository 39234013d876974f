-- The entries of the slots that the first j entries of the one map and the first t of the other do not reach are left to
-- write, and p and q are the places of the next two. Falls: how far these are from the ends.
use Rattle.std.proofs.Common.{◌≡◌, ◌+◌, ◌-◌, ◌*◌}
use Rattle.pciv_format.specs.Check.{file_parts}
use Rattle.pciv_arith_merge.proofs.JointLaws.{JointLeft}
use Rattle.pciv_arith_merge.proofs.joint.put_joint.Given as goal

abbrev pub invariant-loop-p : goal.invariant-loop-p
invariant-loop-p l =
    record {
      left : JointLeft (file_parts l.a l.n l.ka) (file_parts l.b l.n l.kb) l.fn.out l.from l.j l.t l.out l.at;
      first : l.p ≡ 40 + l.n + 12 * l.j;
      second : l.q ≡ 40 + l.n + 12 * l.t;
    }

abbrev pub decreases-loop-p : goal.decreases-loop-p
decreases-loop-p l = l.ends - (l.p + l.q)
