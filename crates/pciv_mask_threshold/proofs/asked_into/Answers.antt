-- Proves pciv_mask_threshold::asked_into: the bytes tell, or the slots of entries are flipped.
use Rattle.std.proofs.Common.{ℕ, ◌+◌, sym, ap, ◌∙◌}
use Rattle.std.proofs.lemmas.List.Edits.{sets}
use Rattle.pciv_format.specs.Check.{file_parts}
use Rattle.pciv_format.specs.Mask.{mask_of}
use Rattle.pciv_mask_threshold.specs.Select.{start_in, flipped_from}
use Rattle.pciv_mask_threshold.proofs.EntryBitsLaws.{flipped-asked}
use Rattle.pciv_mask_threshold.proofs.asked_into.Goals as goal

pub returns-else-bytes_tell : goal.returns-else-bytes_tell
returns-else-bytes_tell c =
    let a = c.args in
    let P = file_parts a.file.now a.n a.k in
    c.flip_entries.ensures a.out.now (start_in P a.asked) c.start_into.ensures
    ∙ ap (λ (limit : ℕ). sets a.out.now 0 (mask_of a.n (flipped_from P limit (start_in P a.asked))))
    c.limit_asked.ensures
    ∙ ap (sets a.out.now 0)
    (flipped-asked P c.requires.checked_map.parts (λ i. (c.type_inv.file (40 + i)).fits) a.asked (sym c.bytes_tell.ensures ∙ c.if-bytes_tell.false))
