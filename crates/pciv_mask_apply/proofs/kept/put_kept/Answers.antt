-- Proves pciv_mask_apply::kept::put_kept.
use Rattle.std.proofs.Common.{◌+◌, ◌*◌, ◌<◌, arith}
use Rattle.pciv_format.specs.Check.{file_parts}
use Rattle.pciv_format.specs.Layout.{overflow_count}
use Rattle.pciv_format.proofs.MapLaws.{entry-inside}
use Rattle.pciv_format.proofs.MaskLaws.{mask-covers}
use Rattle.pciv_format.proofs.PartsLaws.{entry-good}
use Rattle.pciv_build.proofs.AlongLaws.{entries-here}
use Rattle.pciv_build.proofs.EntriesLaws.{entries-start, entries-all}
use Rattle.pciv_mask_primary.specs.Masked.{masked_distance}
use Rattle.pciv_mask_primary.specs.declared.MaskedOp.TheVariants.{Keep}
use Rattle.pciv_mask_apply.proofs.KeptLaws.{kept-along, kept_more}
use Rattle.pciv_mask_apply.proofs.kept.put_kept.Goals as goal
use Rattle.pciv_mask_apply.proofs.kept.put_kept.Goals.{In-loop-at}

-- an entry is left
more : (c : In-loop-at) → (let a = c.args in
    c.loop-at.at < 40 + a.n + 12 * overflow_count a.n (masked_distance Keep (file_parts a.file.now a.n a.k) a.words.now))
more c = omega (arith, c.loop-at-test.true, c.requires.count_value)

inside : (c : In-loop-at) → c.loop-at.j < c.args.k
inside c =
    let a = c.args in
    let l = c.loop-at in
    entries-here
    (kept-along (file_parts a.file.now a.n a.k) c.requires.checked_map.parts (λ i. (c.type_inv.file (40 + i)).fits) a.words.now)
    l.j l.invariant.0 l.invariant.1 (more c)

pub loop-at-init : goal.loop-at-init
loop-at-init c = (omega arith, entries-start c.args.n _ c.args.out.now (40 + c.args.n) (omega (arith, c.requires.count_value)))

pub entry_slot-slot-requires : goal.entry_slot-slot-requires
entry_slot-slot-requires c =
    let j-inside = inside (goal.at.entry_slot-slot-requires c).In-loop-at in
    entry-inside c.args.file.now c.args.n c.args.k c.requires.checked_map c.loop-at.j j-inside

pub entry_distance-requires : goal.entry_distance-requires
entry_distance-requires c =
    let j-inside = inside (goal.at.entry_distance-requires c).In-loop-at in
    entry-inside c.args.file.now c.args.n c.args.k c.requires.checked_map c.loop-at.j j-inside

pub bit_of-bit-requires : goal.bit_of-bit-requires
bit_of-bit-requires c =
    let j-inside = inside (goal.at.bit_of-bit-requires c).In-loop-at in
    let good = entry-good _ c.requires.checked_map.parts c.loop-at.j j-inside in
    omega (arith, good.inside, c.entry_slot-slot.ensures, mask-covers c.requires.mask)

pub loop-at-smaller : goal.loop-at-smaller
loop-at-smaller c = omega (arith, inside (goal.at.loop-at-smaller c).In-loop-at)

pub loop-at-preserved : goal.loop-at-preserved
loop-at-preserved c =
    let a = c.args in
    let here = (goal.at.loop-at-preserved c).In-loop-at in (
      omega (arith, inside here),
      kept_more (file_parts a.file.now a.n a.k) c.requires.checked_map.parts (λ i. (c.type_inv.file (40 + i)).fits) a.words.now
          (inside here) c.loop-at.invariant.1 (more here) _ _ _ _
          c.entry_slot-slot.ensures c.entry_distance.ensures c.bit_of-bit.ensures c.put_entry.ensures.buffer,
    )

pub returns : goal.returns
returns c = entries-all c.loop-at.invariant.1 (omega (arith, c.loop-at-test.false, c.requires.count_value))
