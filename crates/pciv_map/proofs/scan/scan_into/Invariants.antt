-- Invariants of pciv_map::scan::scan_into: out has at its front the primary bytes, with the distances of the first j
-- entries at their slots.
use Rattle.std.proofs.Common.{◌≡◌}
use Rattle.pciv_format.specs.Check.{file_parts}
use Rattle.pciv_format.proofs.PatchLaws.{plain, over}
use Rattle.pciv_map.proofs.scan.scan_into.Given as goal

abbrev pub invariant-loop-j : goal.invariant-loop-j
invariant-loop-j l =
    l.out ≡ over plain (file_parts l.file l.n l.k) l.j l.fn.out
