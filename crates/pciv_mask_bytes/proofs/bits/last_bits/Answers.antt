-- Proves pciv_mask_bytes::bits::last_bits.
use Rattle.std.proofs.Common.{◌/◌, ◌∙◌}
use Rattle.pciv_bytes.proofs.RangesLaws.{length-table}
use Rattle.pciv_bytes.proofs.WriteLaws.{sets-whole}
use Rattle.pciv_mask_bytes.proofs.RowLaws.{no_bytes}
use Rattle.pciv_mask_bytes.proofs.bits.last_bits.Goals as goal

pub returns-then-n-words : goal.returns-then-n-words
returns-then-n-words c = c.put_word.ensures ∙ sets-whole _ _ (length-table _ 0 64)

pub returns-else-n-words : goal.returns-else-n-words
returns-else-n-words c = no_bytes c.args.words.now (c.args.n / 64) c.if-n-words.false
