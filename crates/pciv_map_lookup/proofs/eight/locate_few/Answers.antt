-- Proves pciv_map_lookup::eight::locate_few.
use Rattle.std.proofs.Common.{◌≡◌, ◌<◌, get_or, sym, ◌∙◌, arith}
use Rattle.pciv_format.specs.Parts.{entry_of, value_of}
use Rattle.pciv_format.specs.Check.{file_parts}
use Rattle.pciv_format.proofs.MapLaws.{entry-inside}
use Rattle.pciv_map_lookup.specs.Lookup.{entries_below}
use Rattle.pciv_map_lookup.proofs.EightLaws.{filling-more, filling-end}
use Rattle.pciv_map_lookup.proofs.LookupLaws.{value_of-entry}
use Rattle.pciv_map_lookup.proofs.eight.locate_few.Goals as goal
use Rattle.pciv_map_lookup.proofs.eight.locate_few.Goals.{In-loop-q}

-- the entry of the place that is filled
entry : (c : In-loop-q)
    → (let P = file_parts c.args.file.now c.args.n c.args.k in
    let slot = get_or c.args.slots.now (get_or c.args.places.now c.loop-q.q 0) 0 in
    let j = entries_below P slot in
    (j < c.args.k) × (value_of P slot ≡ P.distance j) × (entry_of P slot ≡ j))
entry c =
    let place = c.requires.count_bound.1.each c.loop-q.q (omega arith) in
    value_of-entry _ c.requires.checked_map.parts _ place.inside place.overflows

pub put_entry-requires-clause-j_in_bounds : goal.put_entry-requires-clause-j_in_bounds
put_entry-requires-clause-j_in_bounds c =
    let e = entry (goal.at.put_entry-requires-clause-j_in_bounds c).In-loop-q in
    entry-inside _ _ _ c.requires.checked_map _ (omega (arith, e.0, c.entry_of-j.ensures))

pub loop-q-preserved : goal.loop-q-preserved
loop-q-preserved c =
    let v = c.loop-q.invariant in
    let long = c.requires.count_bound.1.long in
    let e = entry (goal.at.loop-q-preserved c).In-loop-q in
    let j = c.entry_of-j.ensures in
    let put = c.put_entry.ensures in
    record {
      distances = filling-more long v.distances _ _ put.distances_after (omega arith) (rw j (sym e.1));
      entries = filling-more long v.entries _ _ put.entries_after (omega arith) (j ∙ sym e.2);
    }

pub returns : goal.returns
returns c =
    let v = c.loop-q.invariant in
    let long = c.requires.count_bound.1.long in
    record {
      distances_after = filling-end long v.distances (omega arith);
      entries_after = filling-end long v.entries (omega arith);
    }
