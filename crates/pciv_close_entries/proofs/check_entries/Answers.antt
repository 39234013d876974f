-- Proves pciv_close_entries::check_entries: by the test of each entry.
use Rattle.std.proofs.Common.{◌≡◌, ◌+◌, ◌<◌, ℕ, Ok, sym, ap, ◌∙◌, arith, below_more}
use native.Mathlib.Numerals.{add-one}
use Rattle.pciv_bytes.proofs.RangesLaws.{first_below-at}
use Rattle.pciv_format.specs.Parts.{Parts, bad_entry}
use Rattle.pciv_format.specs.declared.RefusalKind.TheVariants.{BadOverflowEntry}
use Rattle.pciv_format.proofs.PartsLaws.{good_entry-of-test}
use Rattle.pciv_format.proofs.RefusalsLaws.{refuse_first-none, refuse_first-some}
use Rattle.pciv_close_entries.specs.Passes.{parts_of}
use Rattle.pciv_close_entries.proofs.PassesLaws.{as_many, distance-at, slot-is, entry-is}
use Rattle.pciv_close_entries.proofs.check_entries.Goals as goal
use Rattle.pciv_close_entries.proofs.check_entries.Goals.{After-wrong_entry}

abbrev parts : After-wrong_entry → Parts
parts c = parts_of c.args.primary.now c.args.entries.now

-- what the test of entry j says
tested : (c : After-wrong_entry) → bad_entry (parts c) c.loop-j.j ≡ c.wrong_entry.result
tested c =
    let a = c.args in
    entry-is a.primary.now a.entries.now c.loop-j.j c.loop-j-test.true c.loop-j.lowest c.loop-j.invariant.low
    ∙ sym c.wrong_entry.ensures

pub returns-then-wrong_entry-clause-answer : goal.returns-then-wrong_entry-clause-answer
returns-then-wrong_entry-clause-answer c =
    let P = parts (goal.at.returns-then-wrong_entry-clause-answer c).After-wrong_entry in
    let more : c.loop-j.j < P.k = omega (arith, as_many c.args.primary.now c.args.entries.now) in
    let place = sym (first_below-at (bad_entry P) P.k c.loop-j.j more c.loop-j.invariant.right
    (tested (goal.at.returns-then-wrong_entry-clause-answer c).After-wrong_entry ∙ c.if-wrong_entry.true)) in
    c.refuse.ensures ∙ sym (refuse_first-some BadOverflowEntry 1 (bad_entry P) P.k _ (Ok tt) place more)

pub overflow_add-lowest : goal.overflow_add-lowest
overflow_add-lowest c =
    let a = c.args in
    let right = tested (goal.at.overflow_add-lowest c).After-wrong_entry ∙ c.if-wrong_entry.false in
    let g = good_entry-of-test (parts_of a.primary.now a.entries.now) c.loop-j.j right in
    omega (arith, g.inside, slot-is a.primary.now a.entries.now c.loop-j.j c.loop-j-test.true, c.well_formed)

pub loop-j-preserved : goal.loop-j-preserved
loop-j-preserved c =
    let a = c.args in
    record {
      low = rw (add-one c.loop-j.j) (ap (λ (s : ℕ). s + 1) (sym (slot-is a.primary.now a.entries.now c.loop-j.j c.loop-j-test.true)));
      right =
          below_more _ _ c.loop-j.invariant.right
          (tested (goal.at.loop-j-preserved c).After-wrong_entry ∙ c.if-wrong_entry.false);
      small = below_more _ _ c.loop-j.invariant.small (omega (arith, distance-at a.entries.now c.loop-j.j));
    }

pub returns-clause-answer : goal.returns-clause-answer
returns-clause-answer c =
    let P = parts_of c.args.primary.now c.args.entries.now in
    sym (refuse_first-none BadOverflowEntry 1 (bad_entry P) P.k (Ok tt)
    (λ i h. c.loop-j.invariant.right i (omega (arith, as_many c.args.primary.now c.args.entries.now))))
