-- The words before this one are written.
use Rattle.std.proofs.Common.{◌≡◌, ◌*◌}
use Rattle.std.proofs.lemmas.List.Edits.{sets}
use Rattle.pciv_bytes.specs.Ranges.{table}
use Rattle.pciv_format.specs.Mask.{mask_value}
use Rattle.pciv_mask_bytes.proofs.bits.put_bits.Given as goal

abbrev pub invariant-loop-w : goal.invariant-loop-w
invariant-loop-w l = l.out ≡ sets l.initial.out 40 (table (mask_value l.words) 0 (64 * l.w))
