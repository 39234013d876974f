-- Proves pciv_build::slots::put_slots.
use Rattle.std.proofs.Common.{◌≡◌, ℕ, ◌+◌, ◌-◌, ◌*◌, ◌/◌, ◌≤◌, ◌++◌, arith}
use Rattle.pciv_build.specs.Slots.{full_slots}
use Rattle.pciv_build.proofs.SlotsLaws.{blanks-space, blanks-before, blanks-part, blanks-end, slots-part, slots_end}
use Rattle.pciv_build.proofs.slots.put_slots.Goals as goal
use Rattle.pciv_build.proofs.slots.put_slots.Goals.{At-loop-b}

-- the slots that are left: those of the next `count`, and then the others
split : (c : At-loop-b) (count : ℕ)
    → (let i : ℕ = 4096 * c.loop-b.b in
    i + count ≤ c.args.n
    → full_slots c.args.out.now i (c.args.n - i)
    ≡ full_slots c.loop-b.out i count ++ full_slots c.args.out.now (i + count) (c.args.n - (i + count)))
split c count inside =
    slots-part c.args.out.now c.loop-b.out (4096 * c.loop-b.b) count
    (λ j h₁ h₂. blanks-before c.loop-b.invariant (40 + j) (omega arith)) c.args.n inside

pub put_block-place-requires-clause-from_in_bounds : goal.put_block-place-requires-clause-from_in_bounds
put_block-place-requires-clause-from_in_bounds c =
    let z = (goal.at.put_block-place-requires-clause-from_in_bounds c).At-loop-b in
    blanks-space c.loop-b.invariant _ _ (split z _ (omega arith)) c.requires

pub loop-b-preserved : goal.loop-b-preserved
loop-b-preserved c =
    let z = (goal.at.loop-b-preserved c).At-loop-b in
    let i : ℕ = 4096 * c.loop-b.b in
    let next : i + (i + 4096 - i) ≡ 4096 * (c.loop-b.b + 1) = omega arith in
    rw next at
    (blanks-part c.loop-b.invariant _ _ (split z (i + 4096 - i) (omega arith)) _ _ c.put_block-place.ensures.buffer
    c.put_block-place.ensures.next)

pub put_block-requires-clause-from_in_bounds : goal.put_block-requires-clause-from_in_bounds
put_block-requires-clause-from_in_bounds c =
    let z = (goal.at.put_block-requires-clause-from_in_bounds c).At-loop-b in
    let all : c.args.n / 4096 ≡ c.loop-b.b = omega arith in
    rw all (blanks-space c.loop-b.invariant _ _ (split z (c.args.n - 4096 * c.loop-b.b) (omega arith)) c.requires)

pub returns : goal.returns
returns c =
    let z = (goal.at.returns c).At-loop-b in
    let a = c.args in
    let rest : ℕ = a.n - 4096 * c.loop-b.b in
    let all : a.n / 4096 ≡ c.loop-b.b = omega arith in
    (blanks-end
    (blanks-part c.loop-b.invariant _ _ (split z rest (omega arith)) _ _
    (rw all at c.put_block.ensures.buffer) (rw all at c.put_block.ensures.next))
    (slots_end a.out.now a.n (4096 * c.loop-b.b + rest) (omega arith))).1
