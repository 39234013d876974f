-- Invariants of pciv_bits::flags::words_into: two words are written for each p, and then the words below w.
use Rattle.std.proofs.Common.{◌*◌, length}
use Rattle.pciv_bytes.proofs.WriteLaws.{Left}
use Rattle.pciv_format.specs.Mask.{mask_len}
use Rattle.pciv_format.proofs.MaskLaws.{mask_word}
use Rattle.pciv_bits.specs.Flags.{flag_at}
use Rattle.pciv_bits.proofs.flags.words_into.Given as goal

abbrev pub invariant-loop-p : goal.invariant-loop-p
invariant-loop-p l =
    Left (mask_word (length l.a) (flag_at l.a l.test l.negated)) (mask_len (length l.a)) l.fn.out l.out (2 * l.p)

abbrev pub invariant-loop-w : goal.invariant-loop-w
invariant-loop-w l =
    Left (mask_word (length l.a) (flag_at l.a l.test l.negated)) (mask_len (length l.a)) l.fn.out l.out l.w
