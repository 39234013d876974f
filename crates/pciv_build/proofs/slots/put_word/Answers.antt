-- Proves pciv_build::slots::put_word.
use Rattle.std.proofs.Common.{◌≡◌, ◌+◌, ◌-◌, length, sym, ap, ◌∙◌, arith}
use lib.Count.{count_trailing_zeros}
use Rattle.pciv_build.specs.Slots.{is_full, full_slots}
use Rattle.pciv_build.proofs.FullWordLaws.{NextBit, word_next, word_none}
use Rattle.pciv_build.proofs.SlotsLaws.{blanks-more, blanks-end}
use Rattle.pciv_build.proofs.slots.put_word.Invariants.{end}
use Rattle.pciv_build.proofs.slots.put_word.Goals as goal
use Rattle.pciv_build.proofs.slots.put_word.Goals.{In-loop-bits}

-- the lowest set bit
next_bit : (c : In-loop-bits)
    → (let l = c.loop-bits in
    let a = c.args in
    NextBit (is_full a.out.now) l.slot (end a.from a.to - l.slot)
    (full_slots a.out.now l.slot (end a.from a.to - l.slot))
    l.bits (count_trailing_zeros 64 l.bits))
next_bit c =
    let l = c.loop-bits in
    let a = c.args in
    word_next (is_full a.out.now) 64 l.slot (end a.from a.to - l.slot) l.bits l.invariant.told
    (omega (arith, l.invariant.low)) (omega arith)

pub put_entry-next-requires : goal.put_entry-next-requires
put_entry-next-requires c =
    let b = next_bit (goal.at.put_entry-next-requires c).In-loop-bits in
    let left = c.loop-bits.invariant.left in
    omega (arith, left.count, left.size, ap length b.slots-are, c.requires.from_in_bounds)

pub loop-bits-smaller : goal.loop-bits-smaller
loop-bits-smaller c = omega (arith, (next_bit (goal.at.loop-bits-smaller c).In-loop-bits).inside)

pub loop-bits-preserved : goal.loop-bits-preserved
loop-bits-preserved c =
    let l = c.loop-bits in
    let a = c.args in
    let b = next_bit (goal.at.loop-bits-preserved c).In-loop-bits in
    let left : end a.from a.to - l.slot - (count_trailing_zeros 64 l.bits + 1)
    ≡ end a.from a.to - (l.slot + count_trailing_zeros 64 l.bits + 1) = omega arith in
    record {
      low = omega (arith, l.invariant.low);
      high = omega (arith, b.inside);
      told = rw left at b.rest;
      left = blanks-more l.invariant.left _ _ (rw left at b.slots-are) _ _ c.put_entry-next.ensures.buffer
          c.put_entry-next.ensures.next;
    }

pub returns : goal.returns
returns c =
    let l = c.loop-bits in
    let a = c.args in
    let none : l.bits ≡ 0 = omega arith in
    let r = blanks-end l.invariant.left
    (word_none (is_full a.out.now) l.slot (end a.from a.to - l.slot) (sym l.invariant.told ∙ none)) in
    record { next = r.0; buffer = r.1 }
