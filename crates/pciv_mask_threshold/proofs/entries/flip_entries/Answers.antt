-- Proves pciv_mask_threshold::entries::flip_entries. The reasoning on masks is in EntryBitsLaws.antt.
use Rattle.std.proofs.Common.{◌+◌, ◌/◌, ◌<◌, ap, ◌∙◌, length, arith}
use Rattle.std.proofs.lemmas.List.Edits.{sets}
use lib.Dec.{leb}
use lib.Seq.{length-sets}
use Rattle.pciv_bytes.proofs.RangesLaws.{bool_byte-flag}
use Rattle.pciv_format.specs.Mask.{mask_of}
use Rattle.pciv_format.specs.Parts.{Parts}
use Rattle.pciv_format.specs.Check.{file_parts}
use Rattle.pciv_format.proofs.PartsLaws.{entry-good}
use Rattle.pciv_format.proofs.MapLaws.{entry-inside}
use Rattle.pciv_mask_threshold.proofs.EntryBitsLaws.{settled, settled-more, settled-end, flip-front}
use Rattle.pciv_mask_threshold.proofs.entries.flip_entries.Goals as goal
use Rattle.pciv_mask_threshold.proofs.entries.flip_entries.Goals.{After-entry_slot-slot}

abbrev parts : After-entry_slot-slot → Parts
parts c = file_parts c.args.file.now c.args.n c.args.k

-- entry j has its slot in the map, and its word in out
inside : (c : After-entry_slot-slot) → (parts c).slot c.loop-j.j < c.args.n
inside c = (entry-good (parts c) c.requires.checked_map.parts c.loop-j.j c.loop-j-test.true).inside

word : (c : After-entry_slot-slot) → c.entry_slot-slot.result / 64 < length c.loop-j.out
word c = omega (arith, c.entry_slot-slot.ensures, inside c, c.requires.le_limit.1, c.loop-j.auto.out)

pub entry_slot-slot-requires : goal.entry_slot-slot-requires
entry_slot-slot-requires c =
    entry-inside c.args.file.now c.args.n c.args.k c.requires.checked_map c.loop-j.j c.loop-j-test.true

pub entry_distance-distance-requires : goal.entry_distance-distance-requires
entry_distance-distance-requires c =
    entry-inside c.args.file.now c.args.n c.args.k c.requires.checked_map c.loop-j.j c.loop-j-test.true

pub bounds-out-w : goal.bounds-out-w
bounds-out-w c = word (goal.at.bounds-out-w c).After-entry_slot-slot

pub bounds-out-w-in-loop-j : goal.bounds-out-w-in-loop-j
bounds-out-w-in-loop-j c = word (goal.at.bounds-out-w-in-loop-j c).After-entry_slot-slot

pub loop-j-preserved : goal.loop-j-preserved
loop-j-preserved c f p e =
    let a = c.args in
    let P = file_parts a.file.now a.n a.k in
    let j = c.loop-j.j in
    rw (c.loop-j.invariant f p e, c.entry_slot-slot.ensures, c.entry_distance-distance.ensures)
    (flip-front f a.n (settled P a.limit p j) (P.slot j) (leb a.limit (P.distance j)) _
    (bool_byte-flag (leb a.limit (P.distance j)))
    (omega (arith, c.requires.le_limit.1, ap length e, length-sets f 0 (mask_of a.n p)))
    (inside (goal.at.loop-j-preserved c).After-entry_slot-slot)
    ∙ ap (sets f 0) (settled-more P c.requires.checked_map.parts (λ i. (c.type_inv.file (40 + i)).fits) a.limit c.requires.le_limit.0 p j c.loop-j-test.true))

pub returns : goal.returns
returns c f p e =
    c.loop-j.invariant f p e
    ∙ ap (sets f 0) (settled-end _ c.requires.checked_map.parts (λ i. (c.type_inv.file (40 + i)).fits) c.args.limit c.requires.le_limit.0 p c.loop-j.j (omega arith))
