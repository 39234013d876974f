-- Proves pciv_check_parts::first_bad_slot: a count of the bytes 255 that equals k leaves no slot without its entry.
use Rattle.std.proofs.Common.{sym, ◌∙◌, arith}
use Rattle.pciv_bytes.proofs.RangesLaws.{first_below-none}
use Rattle.pciv_format.specs.Check.{file_parts}
use Rattle.pciv_format.proofs.FullCountLaws.{count-complete}
use Rattle.pciv_check_parts.proofs.PrimaryPartLaws.{part_count}
use Rattle.pciv_check_parts.proofs.first_bad_slot.Goals as goal

pub returns-then-count_byte-k : goal.returns-then-count_byte-k
returns-then-count_byte-k c =
    let a = c.args in
    sym (first_below-none _ a.n
    (count-complete (file_parts a.file.now a.n a.k) c.requires.entries_right
    (sym (part_count a.file.now a.n a.k (omega arith)) ∙ sym c.count_byte.ensures ∙ c.if-count_byte-k.true)))
