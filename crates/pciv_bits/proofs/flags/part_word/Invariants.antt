-- Invariants of pciv_bits::flags::part_word: x is the word of the bytes from j up to `to`.
use Rattle.std.proofs.Common.{◌≡◌, ◌-◌, ◌≤◌}
use Rattle.pciv_format.specs.Mask.{word}
use Rattle.pciv_bits.specs.Flags.{is_met}
use Rattle.pciv_bits.proofs.flags.part_word.Given as goal

abbrev pub invariant-loop-j : goal.invariant-loop-j
invariant-loop-j l = record { low : l.from ≤ l.j; made : l.x ≡ word (is_met l.a l.test) l.j (l.to - l.j) }
