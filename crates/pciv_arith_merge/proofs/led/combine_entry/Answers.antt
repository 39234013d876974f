-- Proves pciv_arith_merge::led::combine_entry.
use Rattle.std.proofs.Common.{sym, ap, ap₂, ◌∙◌, arith}
use Rattle.pciv_format.specs.Parts.{value_of}
use Rattle.pciv_format.specs.Check.{file_parts}
use Rattle.pciv_format.specs.Arith.{slot_op}
use Rattle.pciv_format.proofs.PartsLaws.{entry-good, value_of-slot}
use Rattle.pciv_format.proofs.MapLaws.{entry-inside}
use Rattle.pciv_arith_merge.proofs.LedLaws.{before-later}
use Rattle.pciv_arith_merge.proofs.led.combine_entry.Goals as goal

pub entry_slot-slot-requires : goal.entry_slot-slot-requires
entry_slot-slot-requires c =
    entry-inside c.args.a.now c.args.n c.args.ka c.requires.checked_pair.first c.args.j c.requires.j_lt_ka

pub find_from-found-requires-clause-before : goal.find_from-found-requires-clause-before
find_from-found-requires-clause-before c =
    let a = c.args in
    let good = entry-good (file_parts a.a.now a.n a.ka) c.requires.checked_pair.first.parts a.j c.requires.j_lt_ka in
    before-later (file_parts a.b.now a.n a.kb) _ _ a.t (omega (arith, c.entry_slot-slot.ensures, good.above))
    c.requires.before

pub find_from-found-requires-clause-slot_lt_n : goal.find_from-found-requires-clause-slot_lt_n
find_from-found-requires-clause-slot_lt_n c =
    let a = c.args in
    let good = entry-good (file_parts a.a.now a.n a.ka) c.requires.checked_pair.first.parts a.j c.requires.j_lt_ka in
    omega (arith, c.entry_slot-slot.ensures, good.inside)

pub entry_distance-requires : goal.entry_distance-requires
entry_distance-requires c =
    entry-inside c.args.a.now c.args.n c.args.ka c.requires.checked_pair.first c.args.j c.requires.j_lt_ka

pub returns : goal.returns
returns c =
    let a = c.args in
    let A = file_parts a.a.now a.n a.ka in
    let B = file_parts a.b.now a.n a.kb in
    let at = c.entry_slot-slot.ensures in
    let first = c.entry_distance.ensures
    ∙ sym (value_of-slot A c.requires.checked_pair.first.parts a.j c.requires.j_lt_ka) in
    let second = c.find_from-found.ensures.distance ∙ ap (value_of B) at in
    record {
      slot = at;
      distance = c.slot_op.ensures ∙ ap₂ (slot_op a.op) first second;
      before = before-later B _ _ c.find_from-found.result.entry (omega (arith, at)) c.find_from-found.ensures.before;
    }
