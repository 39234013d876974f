-- The slot's entry is j or a later one. Falls: the number of entries up to it.
use Rattle.std.proofs.Common.{◌≤◌, ◌-◌}
use Rattle.pciv_format.specs.Parts.{entry_of}
use Rattle.pciv_format.specs.Check.{file_parts}
use Rattle.pciv_arith_merge.proofs.led.seek.Given as goal

abbrev pub invariant-loop-j : goal.invariant-loop-j
invariant-loop-j l = l.j ≤ entry_of (file_parts l.file l.n l.k) l.slot

abbrev pub decreases-loop-j : goal.decreases-loop-j
decreases-loop-j l = entry_of (file_parts l.file l.n l.k) l.slot - l.j
