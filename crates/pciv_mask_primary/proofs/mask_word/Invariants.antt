-- The bytes before this one are written.
use Rattle.std.proofs.Common.{◌≡◌, ◌+◌}
use Rattle.std.proofs.lemmas.List.Edits.{sets}
use Rattle.pciv_bytes.specs.Ranges.{table}
use Rattle.pciv_mask_primary.specs.Masked.{masked_word}
use Rattle.pciv_mask_primary.proofs.mask_word.Given as goal

abbrev pub invariant-loop-j : goal.invariant-loop-j
invariant-loop-j l = l.out ≡ sets l.initial.out (40 + l.i) (table (masked_word l.op l.file (40 + l.i) l.word) 0 l.j)
