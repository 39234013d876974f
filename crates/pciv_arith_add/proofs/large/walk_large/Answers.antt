-- Proves pciv_arith_add::large::walk_large.
use Rattle.std.proofs.Common.{arith}
use Rattle.pciv_check.proofs.SoundPairLaws.{sound}
use Rattle.pciv_arith_add.proofs.AddendLaws.{checked-maps}
use Rattle.pciv_arith_add.proofs.LargeLaws.{walked_start, walked_more, walked-found, walked_none}
use Rattle.pciv_arith_add.proofs.large.walk_large.Goals as goal

pub loop-slot-init : goal.loop-slot-init
loop-slot-init c =
    walked_start (sound (checked-maps c.requires.checked_pair c.type_inv.a c.type_inv.b)) c.args.of c.requires.small _
    c.either_slot-slot.ensures

pub returns-then-x-y : goal.returns-then-x-y
returns-then-x-y c =
    walked-found (sound (checked-maps c.requires.checked_pair c.type_inv.a c.type_inv.b)) c.args.of c.requires.small _ _ _
    c.loop-slot.invariant c.loop-slot-test.true
    (omega (arith, c.if-x-y.true, c.take_at-x.ensures.is, c.take_addend-y.ensures.is))

pub loop-slot-preserved : goal.loop-slot-preserved
loop-slot-preserved c =
    let tx = c.take_at-x.ensures in
    let ty = c.take_addend-y.ensures in
    let pair = sound (checked-maps c.requires.checked_pair c.type_inv.a c.type_inv.b) in
    (walked_more pair c.args.of c.requires.small _ _ _ _ _ _ c.loop-slot.invariant c.loop-slot-test.true
    (omega (arith, c.if-x-y.false, tx.is, ty.is, pair.fits-first _ c.loop-slot-test.true)) tx.next
    ty.next c.either_slot-slot-in-loop-slot.ensures).0

pub returns : goal.returns
returns c =
    walked_none (sound (checked-maps c.requires.checked_pair c.type_inv.a c.type_inv.b)) c.args.of c.requires.small _ _ _
    c.loop-slot.invariant c.loop-slot-test.false
