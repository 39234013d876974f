-- Proves pciv_mask_apply::kept::count_kept.
use Rattle.std.proofs.Common.{◌+◌, ap, ◌∙◌, arith}
use Rattle.pciv_format.specs.Check.{file_parts}
use Rattle.pciv_format.specs.Mask.{mask_value}
use Rattle.pciv_format.proofs.MapLaws.{entry-inside}
use Rattle.pciv_format.proofs.MaskLaws.{mask-covers}
use Rattle.pciv_format.proofs.PartsLaws.{entry-good}
use Rattle.pciv_build.proofs.AlongLaws.{counted-last}
use Rattle.pciv_build.proofs.EntriesLaws.{counted_start}
use Rattle.pciv_mask_apply.proofs.KeptLaws.{kept-along, kept-counted}
use Rattle.pciv_mask_apply.proofs.kept.count_kept.Goals as goal

pub loop-j-init : goal.loop-j-init
loop-j-init c = counted_start c.args.n _

pub entry_slot-requires : goal.entry_slot-requires
entry_slot-requires c =
    entry-inside c.args.file.now c.args.n c.args.k c.requires.checked_map c.loop-j.j c.loop-j-test.true

pub bit_of-requires : goal.bit_of-requires
bit_of-requires c =
    let good = entry-good _ c.requires.checked_map.parts c.loop-j.j c.loop-j-test.true in
    omega (arith, good.inside, c.entry_slot.ensures, mask-covers c.requires.mask)

pub loop-j-preserved : goal.loop-j-preserved
loop-j-preserved c =
    let a = c.args in
    kept-counted (file_parts a.file.now a.n a.k) c.requires.checked_map.parts (λ i. (c.type_inv.file (40 + i)).fits) a.words.now
    c.loop-j-test.true c.loop-j.invariant (c.bit_of.ensures ∙ ap (mask_value a.words.now) c.entry_slot.ensures)

pub returns : goal.returns
returns c =
    let a = c.args in
    counted-last
    (kept-along (file_parts a.file.now a.n a.k) c.requires.checked_map.parts (λ i. (c.type_inv.file (40 + i)).fits) a.words.now)
    c.loop-j.j (omega arith) c.loop-j-test.false c.loop-j.invariant
