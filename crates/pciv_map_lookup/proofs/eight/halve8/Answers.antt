-- Proves pciv_map_lookup::eight::halve8: EightLaws.antt has the reasoning on a turn.
use Rattle.std.proofs.Common.{◌+◌, ◌/◌, ◌<◌, get_or, length-set, arith}
use Rattle.pciv_format.proofs.MapLaws.{entry-inside}
use Rattle.pciv_format.proofs.PartsLaws.{entry-good}
use Rattle.pciv_map_lookup.proofs.EightLaws.{halving-more, holds-halve}
use Rattle.pciv_map_lookup.proofs.eight.halve8.Goals as goal
use Rattle.pciv_map_lookup.proofs.eight.halve8.Goals.{In-loop-q}

-- the entry in the middle of those that are left to the search
probe-lt : (c : In-loop-q) → get_or c.loop-q.first c.loop-q.q 0 + c.args.len / 2 < c.args.k
probe-lt c =
    let l = c.loop-q in
    omega (arith, (l.invariant.turns.left l.q (omega arith) (omega arith)).within, c.requires.len_nonzero.0)

pub entry_slot-found-requires : goal.entry_slot-found-requires
entry_slot-found-requires c =
    entry-inside _ _ _ c.requires.checked_map _ (probe-lt (goal.at.entry_slot-found-requires c).In-loop-q)

pub is_at_most-requires : goal.is_at_most-requires
is_at_most-requires c =
    let map = c.requires.checked_map in
    let inside = (c.requires.overflow_places.each c.loop-q.q (omega arith)).inside in
    let good = entry-good _ map.parts _ (probe-lt (goal.at.is_at_most-requires c).In-loop-q) in
    omega (arith, inside, map.header.small, c.entry_slot-found.ensures, good.inside)

pub loop-q-preserved : goal.loop-q-preserved
loop-q-preserved c =
    let l = c.loop-q in
    let some = c.requires.len_nonzero.0 in
    record {
      long = simp length-set l.invariant.long;
      turns = halving-more _ _ _ _ _ _ (omega arith)
          (holds-halve _ c.requires.checked_map.parts _ _ _ _ _ some c.entry_slot-found.ensures c.is_at_most.ensures
          (l.invariant.turns.left l.q (omega arith) (omega arith)))
          l.invariant.turns;
    }
