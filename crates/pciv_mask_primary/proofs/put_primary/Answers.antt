-- Proves pciv_mask_primary::put_primary: the whole words, then what is left.
use Rattle.std.proofs.Common.{◌≡◌, ℕ, ◌+◌, ◌*◌, refl, ap, ◌∙◌, arith}
use Rattle.std.proofs.lemmas.List.Edits.{sets}
use Rattle.pciv_bytes.specs.ByteAt.{byte_at}
use Rattle.pciv_bytes.specs.Ranges.{table}
use Rattle.pciv_format.proofs.MapLaws.{primary-inside}
use Rattle.pciv_mask_bytes.proofs.RowLaws.{last_bit}
use Rattle.pciv_mask_bytes.proofs.SlotLaws.{written-more, written-one}
use Rattle.pciv_mask_primary.specs.Masked.{masked_byte}
use Rattle.pciv_mask_primary.proofs.ByteLaws.{masked_slot, word-of-slots, masked-primary}
use Rattle.pciv_mask_primary.proofs.put_primary.Goals as goal

pub loop-w-init : goal.loop-w-init
unfolding table
loop-w-init c = refl

pub mask_slots-requires-clause-i_in_bounds : goal.mask_slots-requires-clause-i_in_bounds
mask_slots-requires-clause-i_in_bounds c =
    let inside = primary-inside c.args.file.now c.args.n c.args.k c.requires.checked_map in
    (omega (arith, inside), omega arith)

pub loop-w-preserved : goal.loop-w-preserved
loop-w-preserved c =
    let a = c.args in
    written-more (masked_slot a.op a.file.now a.words.now) 40 a.out.now (64 * c.loop-w.w) c.loop-w.invariant 64 _
    c.mask_slots.ensures (word-of-slots a.op a.file.now a.words.now c.loop-w.w) (omega arith)

pub bounds-file-i : goal.bounds-file-i
bounds-file-i c = omega (arith, primary-inside c.args.file.now c.args.n c.args.k c.requires.checked_map)

pub loop-i-preserved : goal.loop-i-preserved
loop-i-preserved c =
    let a = c.args in
    let i = c.loop-i.i in
    let bit = last_bit _ a.words.now a.n i c.last_bits-bits.ensures (omega arith) (omega arith) in
    written-one (masked_slot a.op a.file.now a.words.now) 40 a.out.now i c.loop-i.invariant _
    (c.masked_byte.ensures ∙ ap (λ (z : ℕ). masked_byte a.op z (byte_at a.file.now (40 + i))) bit)

pub returns : goal.returns
returns c =
    let a = c.args in
    let f = masked_slot a.op a.file.now a.words.now in
    let all : c.loop-i.i ≡ a.n = omega arith in
    c.loop-i.invariant
    ∙ ap (λ (i : ℕ). sets a.out.now 40 (table f 0 i)) all
    ∙ ap (sets a.out.now 40) (masked-primary a.op a.file.now a.words.now a.n a.k c.requires.checked_map (λ i. (c.type_inv.file i).fits))
