-- Invariants of pciv_map_lookup::eight::halve8: the first q searches have had their turn, and the others wait for it.
use Rattle.std.proofs.Common.{◌≡◌, ℕ, length, get_or}
use Rattle.pciv_format.specs.Check.{file_parts}
use Rattle.pciv_map_lookup.proofs.EightLaws.{Halving}
use Rattle.pciv_map_lookup.proofs.eight.halve8.Given as goal

abbrev pub invariant-loop-q : goal.invariant-loop-q
invariant-loop-q l =
    record {
      long : length l.first ≡ 8;
      turns : Halving (file_parts l.file l.n l.k) (λ (j : ℕ). get_or l.slots (get_or l.places j 0) 0) l.len l.first l.q;
    }
