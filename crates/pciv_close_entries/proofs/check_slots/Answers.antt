-- Proves pciv_close_entries::check_slots: a count of the bytes 255 that equals k leaves no slot without its entry.
use Rattle.std.proofs.Common.{Ok, sym, ◌∙◌}
use Rattle.pciv_format.specs.declared.RefusalKind.TheVariants.{MissingOverflowEntry}
use Rattle.pciv_format.specs.Parts.{Parts, bad_slot}
use Rattle.pciv_format.proofs.FullCountLaws.{count-complete}
use Rattle.pciv_format.proofs.RefusalsLaws.{refuse_first-none}
use Rattle.pciv_close_entries.specs.Passes.{parts_of}
use Rattle.pciv_close_entries.proofs.PassesLaws.{as_many}
use Rattle.pciv_close_entries.proofs.check_slots.Goals as goal

pub returns-then-count_byte-entries : goal.returns-then-count_byte-entries
returns-then-count_byte-entries c =
    let a = c.args in
    let P : Parts = parts_of a.primary.now a.entries.now in
    sym
    (refuse_first-none MissingOverflowEntry 1 (bad_slot P) P.n (Ok tt)
    (count-complete P c.requires
    (sym c.count_byte.ensures ∙ c.if-count_byte-entries.true ∙ sym (as_many a.primary.now a.entries.now))))
