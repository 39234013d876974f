-- Proves pciv_arith_merge::combine::put_parts: in each case the primary array and the entries are those of the case.
use Rattle.std.proofs.Common.{arith}
use Rattle.pciv_passes.specs.declared.pairs.ByteOp.TheVariants.{Min, Max, Sub}
use Rattle.pciv_format.specs.declared.SlotOp.TheVariants.{Minimum, Maximum, Difference}
use Rattle.pciv_arith_merge.proofs.CombineLaws.{checked-sound, same-minimum, same-maximum}
use Rattle.pciv_arith_merge.proofs.CombineLaws.{same-difference, combined-parts, inline-right}
use Rattle.pciv_arith_merge.proofs.MendLaws.{settled-over}
use Rattle.pciv_arith_merge.proofs.combine.put_parts.Goals as goal

pub settle_led-requires-clause-inline_right : goal.settle_led-requires-clause-inline_right
settle_led-requires-clause-inline_right c =
    inline-right Difference Sub same-difference (checked-sound c.requires.checked_pair c.type_inv.a c.type_inv.b)
    c.args.out.now _ (omega (arith, c.requires.kb_in_bounds)) c.put_primary-in-Difference.ensures

pub returns-in-Minimum : goal.returns-in-Minimum
returns-in-Minimum c =
    rw c.in-Minimum.is
    (combined-parts Minimum Min same-minimum (checked-sound c.requires.checked_pair c.type_inv.a c.type_inv.b) c.args.out.now _ _
    c.put_primary.ensures c.put_led.ensures)

pub returns-in-Maximum : goal.returns-in-Maximum
returns-in-Maximum c =
    rw c.in-Maximum.is
    (combined-parts Maximum Max same-maximum (checked-sound c.requires.checked_pair c.type_inv.a c.type_inv.b) c.args.out.now _ _
    c.put_primary-in-Maximum.ensures c.put_joint.ensures)

pub returns-in-Difference : goal.returns-in-Difference
returns-in-Difference c =
    rw c.in-Difference.is
    (settled-over c.args.n _ _ c.args.out.now _ _ c.put_primary-in-Difference.ensures c.settle_led.ensures)
