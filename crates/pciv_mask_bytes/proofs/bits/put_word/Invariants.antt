-- The rows before this one are written.
use Rattle.std.proofs.Common.{◌≡◌, ◌*◌}
use Rattle.std.proofs.lemmas.List.Edits.{sets}
use Rattle.pciv_bytes.specs.Ranges.{table}
use Rattle.pciv_format.specs.Mask.{bit_at}
use Rattle.pciv_mask_bytes.proofs.bits.put_word.Given as goal

abbrev pub invariant-loop-row : goal.invariant-loop-row
invariant-loop-row l = l.out ≡ sets l.initial.out l.at (table (bit_at l.word) 0 (8 * l.row))
