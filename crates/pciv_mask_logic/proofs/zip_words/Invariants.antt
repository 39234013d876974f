-- What remains to be written.
use Rattle.std.proofs.Common.{length}
use Rattle.pciv_bytes.proofs.WriteLaws.{Left}
use Rattle.pciv_mask_logic.specs.Logic.{op_at}
use Rattle.pciv_mask_logic.proofs.zip_words.Given as goal

abbrev pub invariant-loop-i : goal.invariant-loop-i
invariant-loop-i l = Left (op_at l.op l.a l.b) (length l.a) l.initial.out l.out l.i
