-- Proves pciv_arith_merge::joint::meet: the value is put together as its definition says.
use Rattle.pciv_format.specs.Check.{file_parts}
use Rattle.pciv_arith_merge.proofs.JointLaws.{met_of-is}
use Rattle.pciv_arith_merge.proofs.joint.meet.Goals as goal

pub returns : goal.returns
returns c =
    let a = c.args in
    met_of-is (file_parts a.a.now a.n a.ka) (file_parts a.b.now a.n a.kb) a.j a.t _ _ _ _ _ _ _ _
    c.read_head-x.ensures c.read_head-y.ensures c.min-slot.ensures c.distance_in-dx.ensures c.distance_in-dy.ensures
    c.slot_op.ensures c.is_at.ensures c.is_at-2.ensures
