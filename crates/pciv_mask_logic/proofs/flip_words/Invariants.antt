-- What remains to be written.
use Rattle.pciv_bytes.proofs.WriteLaws.{Left}
use Rattle.pciv_format.specs.Mask.{mask_len}
use Rattle.pciv_mask_logic.specs.Logic.{flip_at}
use Rattle.pciv_mask_logic.proofs.flip_words.Given as goal

abbrev pub invariant-loop-i : goal.invariant-loop-i
invariant-loop-i l = Left (flip_at l.n l.words) (mask_len l.n) l.initial.out l.out l.i
