-- Proves pciv_mask_increment::first_too_large.
use Rattle.std.proofs.Common.{◌≡◌, ◌+◌, ap, ◌∙◌, arith}
use Rattle.pciv_format.specs.Check.{file_parts}
use Rattle.pciv_format.specs.Mask.{mask_value}
use Rattle.pciv_format.specs.Parts.{Parts}
use Rattle.pciv_format.proofs.MapLaws.{entry-inside}
use Rattle.pciv_format.proofs.MaskLaws.{mask-covers}
use Rattle.pciv_format.proofs.PartsLaws.{entry-good}
use Rattle.pciv_mask_increment.proofs.RaisedLaws.{fine_more, fine-found, fine-all}
use Rattle.pciv_mask_increment.proofs.first_too_large.Goals as goal
use Rattle.pciv_mask_increment.proofs.first_too_large.Goals.{After-bit_of}

abbrev parts : After-bit_of → Parts
parts c = file_parts c.args.file.now c.args.n c.args.k

bit : (c : After-bit_of) → c.bit_of.result ≡ mask_value c.args.words.now ((parts c).slot c.loop-j.j)
bit c = c.bit_of.ensures ∙ ap (mask_value c.args.words.now) c.entry_slot-slot.ensures

pub entry_slot-slot-requires : goal.entry_slot-slot-requires
entry_slot-slot-requires c =
    entry-inside c.args.file.now c.args.n c.args.k c.requires.checked_map c.loop-j.j c.loop-j-test.true

pub entry_distance-x-requires : goal.entry_distance-x-requires
entry_distance-x-requires c =
    entry-inside c.args.file.now c.args.n c.args.k c.requires.checked_map c.loop-j.j c.loop-j-test.true

pub bit_of-requires : goal.bit_of-requires
bit_of-requires c =
    let good = entry-good _ c.requires.checked_map.parts c.loop-j.j c.loop-j-test.true in
    omega (arith, good.inside, c.entry_slot-slot.ensures, mask-covers c.requires.mask)

pub returns-then-x-bit_of : goal.returns-then-x-bit_of
returns-then-x-bit_of c =
    let z = (goal.at.returns-then-x-bit_of c).After-bit_of in
    c.entry_slot-slot.ensures
    ∙ fine-found (parts z) c.requires.checked_map.parts (λ i. (c.type_inv.file (40 + i)).fits) c.args.words.now
    c.loop-j-test.true c.loop-j.invariant (omega (arith, c.if-x-bit_of.true, bit z, c.entry_distance-x.ensures))

pub loop-j-preserved : goal.loop-j-preserved
loop-j-preserved c =
    let z = (goal.at.loop-j-preserved c).After-bit_of in
    fine_more (parts z) c.requires.checked_map.parts (λ i. (c.type_inv.file (40 + i)).fits) c.args.words.now
    c.loop-j-test.true c.loop-j.invariant (omega (arith, c.if-x-bit_of.false, bit z, c.entry_distance-x.ensures))

pub returns : goal.returns
returns c =
    fine-all _ c.requires.checked_map.parts (λ i. (c.type_inv.file (40 + i)).fits) c.args.words.now
    c.loop-j.j (omega arith) c.loop-j-test.false c.loop-j.invariant
