-- Proves pciv_close::first_bad_slot: a count of the bytes 255 that equals k leaves no slot without its entry.
use Rattle.std.proofs.Common.{sym, ◌∙◌}
use Rattle.pciv_bytes.proofs.RangesLaws.{first_below-none}
use Rattle.pciv_format.specs.Parts.{Parts, bad_slot}
use Rattle.pciv_format.proofs.FullCountLaws.{count-complete}
use Rattle.pciv_close.specs.Close.{slot_parts}
use Rattle.pciv_close.proofs.first_bad_slot.Goals as goal

pub returns-then-count_byte-slots : goal.returns-then-count_byte-slots
returns-then-count_byte-slots c =
    let P : Parts = slot_parts c.args.primary.now c.args.slots.now in
    sym
    (first_below-none (bad_slot P) P.n
    (count-complete P c.requires (sym c.count_byte.ensures ∙ c.if-count_byte-slots.true)))
