-- Proves pciv_build::slots::put_words.
use Rattle.std.proofs.Common.{◌≡◌, ℕ, ◌+◌, ◌-◌, ◌*◌, ◌≤◌, ◌<◌, ◌++◌, min, ◌∙◌, arith}
use Rattle.pciv_bytes.specs.ByteAt.{byte_at}
use Rattle.pciv_build.specs.Slots.{full_slots}
use Rattle.pciv_build.proofs.SlotsLaws.{blanks-space, blanks-before, blanks-part, blanks-end, word_same, slots-word, slots_end}
use Rattle.pciv_build.proofs.slots.put_words.Goals as goal
use Rattle.pciv_build.proofs.slots.put_words.Goals.{In-loop-w}

-- the first slot of the next word, and how many it has
abbrev first : In-loop-w → ℕ
first c = c.args.from + 64 * c.loop-w.w

abbrev count : In-loop-w → ℕ
count c = min 64 (c.args.to - first c)

-- their primary bytes are as they were
kept : (c : In-loop-w) (j : ℕ) → first c ≤ j → j < first c + count c
    → byte_at c.loop-w.out (40 + j) ≡ byte_at c.args.out.now (40 + j)
kept c j h₁ h₂ = blanks-before c.loop-w.invariant (40 + j) (omega arith)

-- the slots that are left: those of the next word, and then the others
split : (c : In-loop-w)
    → full_slots c.args.out.now (first c) (c.args.to - first c)
    ≡ full_slots c.loop-w.out (first c) (count c)
    ++ full_slots c.args.out.now (first c + 64) (c.args.to - (first c + 64))
split c = slots-word c.args.out.now c.loop-w.out (first c) c.args.to (kept c)

pub put_word-next-requires-clause-flags_value : goal.put_word-next-requires-clause-flags_value
put_word-next-requires-clause-flags_value c =
    let z = (goal.at.put_word-next-requires-clause-flags_value c).In-loop-w in
    c.requires.tell_full c.loop-w.w (omega arith)
    ∙ word_same c.args.out.now c.loop-w.out (first z) (count z) (kept z)

pub put_word-next-requires-clause-from_in_bounds : goal.put_word-next-requires-clause-from_in_bounds
put_word-next-requires-clause-from_in_bounds c =
    let z = (goal.at.put_word-next-requires-clause-from_in_bounds c).In-loop-w in
    blanks-space c.loop-w.invariant _ _ (split z) c.requires.from_in_bounds

pub loop-w-preserved : goal.loop-w-preserved
loop-w-preserved c =
    let z = (goal.at.loop-w-preserved c).In-loop-w in
    let next : first z + 64 ≡ c.args.from + 64 * (c.loop-w.w + 1) = omega arith in
    rw next at
    (blanks-part c.loop-w.invariant _ _ (split z) _ _ c.put_word-next.ensures.buffer c.put_word-next.ensures.next)

pub returns : goal.returns
returns c =
    let a = c.args in
    let r = blanks-end c.loop-w.invariant (slots_end a.out.now a.to (a.from + 64 * c.loop-w.w) (omega arith)) in
    record { next = r.0; buffer = r.1 }
