-- Invariants of pciv_map_lookup::eight::locate8: in both lists the places from q on are left.
use Rattle.pciv_format.specs.Parts.{entry_of, value_of}
use Rattle.pciv_format.specs.Check.{file_parts}
use Rattle.pciv_map_lookup.specs.Eight.{at_place}
use Rattle.pciv_map_lookup.proofs.EightLaws.{Filling}
use Rattle.pciv_map_lookup.proofs.eight.locate8.Given as goal

abbrev pub invariant-loop-q : goal.invariant-loop-q
invariant-loop-q l =
    record {
      distances : Filling (at_place (value_of (file_parts l.file l.n l.k)) l.slots) l.places l.fn.distances l.distances 8 l.q;
      entries : Filling (at_place (entry_of (file_parts l.file l.n l.k)) l.slots) l.places l.fn.entries l.entries 8 l.q;
    }
