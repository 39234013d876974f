-- The bytes of the slots before this word, and then before this slot, are written.
use Rattle.std.proofs.Common.{◌≡◌, ◌*◌}
use Rattle.std.proofs.lemmas.List.Edits.{sets}
use Rattle.pciv_bytes.specs.Ranges.{table}
use Rattle.pciv_mask_primary.proofs.ByteLaws.{masked_slot}
use Rattle.pciv_mask_primary.proofs.put_primary.Given as goal

abbrev pub invariant-loop-w : goal.invariant-loop-w
invariant-loop-w l = l.out ≡ sets l.initial.out 40 (table (masked_slot l.op l.file l.words) 0 (64 * l.w))

abbrev pub invariant-loop-i : goal.invariant-loop-i
invariant-loop-i l = l.out ≡ sets l.fn.out 40 (table (masked_slot l.op l.file l.words) 0 l.i)
