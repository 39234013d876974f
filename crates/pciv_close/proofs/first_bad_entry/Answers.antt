-- Proves pciv_close::first_bad_entry.
use Rattle.std.proofs.Common.{◌≡◌, ℕ, ◌+◌, sym, ap, ◌∙◌, add-one, below_more, arith}
use Rattle.pciv_bytes.proofs.RangesLaws.{first_below-at}
use Rattle.pciv_format.specs.Layout.{at}
use Rattle.pciv_format.specs.Parts.{Parts, bad_entry}
use Rattle.pciv_format.specs.Write.{close_parts}
use Rattle.pciv_format.proofs.PartsLaws.{good_entry-of-test}
use Rattle.pciv_close.proofs.CloseLaws.{slot_is, entry-is, first-bad-end}
use Rattle.pciv_close.proofs.first_bad_entry.Goals as goal
use Rattle.pciv_close.proofs.first_bad_entry.Goals.{After-wrong_entry}

abbrev parts : After-wrong_entry → Parts
parts c = close_parts c.args.primary.now c.args.slots.now c.args.distances.now

-- the slot of entry j, and what its test says
slot-here : (c : After-wrong_entry) → (parts c).slot c.loop-j.j ≡ at c.args.slots.now c.loop-j.j
slot-here c = slot_is c.args.primary.now c.args.slots.now c.args.distances.now c.loop-j.j (omega arith)

tested : (c : After-wrong_entry) → bad_entry (parts c) c.loop-j.j ≡ c.wrong_entry.result
tested c =
    let a = c.args in
    entry-is a.primary.now a.slots.now a.distances.now c.loop-j.j c.loop-j.lowest (omega arith) c.loop-j.invariant.lowest
    ∙ sym c.wrong_entry.ensures

pub returns-then-wrong_entry : goal.returns-then-wrong_entry
returns-then-wrong_entry c =
    let t = (goal.at.returns-then-wrong_entry c).After-wrong_entry in
    sym
    (first_below-at (bad_entry (parts t)) (parts t).k c.loop-j.j (omega arith) c.loop-j.invariant.right
    (tested t ∙ c.if-wrong_entry.true))

pub overflow_add-lowest : goal.overflow_add-lowest
overflow_add-lowest c =
    let t = (goal.at.overflow_add-lowest c).After-wrong_entry in
    let g = good_entry-of-test (parts t) c.loop-j.j (tested t ∙ c.if-wrong_entry.false) in
    omega (arith, g.inside, slot-here t, c.well_formed)

pub loop-j-preserved : goal.loop-j-preserved
loop-j-preserved c =
    let t = (goal.at.loop-j-preserved c).After-wrong_entry in
    record {
      lowest = rw (add-one c.loop-j.j) (ap (λ (s : ℕ). s + 1) (sym (slot-here t)));
      right = below_more _ _ c.loop-j.invariant.right (tested t ∙ c.if-wrong_entry.false);
    }

pub returns : goal.returns
returns c =
    let a = c.args in
    sym
    (first-bad-end a.primary.now a.slots.now a.distances.now c.min-end.result
    c.min-end.ensures (λ i h. c.loop-j.invariant.right i (omega arith)))
