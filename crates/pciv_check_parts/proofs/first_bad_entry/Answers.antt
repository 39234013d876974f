-- Proves pciv_check_parts::first_bad_entry.
use Rattle.std.proofs.Common.{◌≡◌, ℕ, ◌+◌, ap, sym, ◌∙◌, add-one, arith, below_more}
use Rattle.pciv_bytes.proofs.RangesLaws.{first_below-at, first_below-none}
use Rattle.pciv_format.specs.Parts.{bad_entry}
use Rattle.pciv_format.specs.Check.{file_parts}
use Rattle.pciv_format.proofs.PartsLaws.{good_entry-of-test}
use Rattle.pciv_check_parts.proofs.PrimaryPartLaws.{part-entry}
use Rattle.pciv_check_parts.proofs.first_bad_entry.Goals as goal
use Rattle.pciv_check_parts.proofs.first_bad_entry.Goals.{After-wrong_entry}

-- what the test of entry j says
tested : (c : After-wrong_entry)
    → bad_entry (file_parts c.args.file.now c.args.n c.args.k) c.loop-j.j ≡ c.wrong_entry.result
tested c =
    let a = c.args in
    part-entry a.file.now a.n a.k (omega (arith, c.requires.inside)) c.loop-j.j
    c.loop-j.lowest c.get64-slot.result c.get32-distance.result c.loop-j.invariant.lowest
    c.get64-slot.ensures c.get32-distance.ensures
    ∙ sym c.wrong_entry.ensures

pub returns-then-wrong_entry : goal.returns-then-wrong_entry
returns-then-wrong_entry c =
    sym (first_below-at _ c.args.k _ (omega arith) c.loop-j.invariant.right
    (tested (goal.at.returns-then-wrong_entry c).After-wrong_entry ∙ c.if-wrong_entry.true))

pub overflow_add-lowest : goal.overflow_add-lowest
overflow_add-lowest c =
    let a = c.args in
    let good = good_entry-of-test (file_parts a.file.now a.n a.k) c.loop-j.j
    (tested (goal.at.overflow_add-lowest c).After-wrong_entry ∙ c.if-wrong_entry.false) in
    omega (arith, good.inside, c.get64-slot.ensures, c.requires.small)

pub loop-j-preserved : goal.loop-j-preserved
loop-j-preserved c =
    record {
      lowest = rw (add-one c.loop-j.j) (ap (λ (x : ℕ). x + 1) c.get64-slot.ensures);
      right = below_more _ _ c.loop-j.invariant.right
          (tested (goal.at.loop-j-preserved c).After-wrong_entry ∙ c.if-wrong_entry.false);
    }

pub returns : goal.returns
returns c = sym (first_below-none _ c.args.k (λ i h. c.loop-j.invariant.right i (omega arith)))
