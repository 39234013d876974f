-- Proves pciv_repair_file::kept::lowest_after: the test of the entry, by the primary part as a slice.
use Rattle.std.proofs.Common.{◌≡◌, ℕ, ◌+◌, Bool, cond, sym, ap, ◌∙◌, arith}
use Rattle.pciv_format.specs.Parts.{Parts}
use Rattle.pciv_format.specs.Check.{file_parts}
use Rattle.pciv_format.proofs.PartsLaws.{right_entry-of-test}
use Rattle.pciv_check_parts.proofs.PrimaryPartLaws.{part-wrong}
use Rattle.pciv_repair_file.specs.Repaired.{wrong_at, lowest_after}
use Rattle.pciv_repair_file.proofs.kept.lowest_after.Goals as goal
use Rattle.pciv_repair_file.proofs.kept.lowest_after.Goals.{After-wrong_entry}

abbrev parts : After-wrong_entry → Parts
parts c = let a = c.args in file_parts a.file.now a.n (a.j + 1)

-- what the test says
tested : (c : After-wrong_entry) → wrong_at (parts c) c.args.lowest c.args.j ≡ c.wrong_entry.result
tested c =
    let a = c.args in
    rw (← c.get64-slot.ensures, ← c.get32-distance.ensures)
    (sym (part-wrong a.file.now a.n (a.j + 1) (omega arith) a.lowest c.get64-slot.result c.get32-distance.result)
    ∙ sym c.wrong_entry.ensures)

-- the least slot after it, by that test
next : (c : After-wrong_entry) (b : Bool) → c.wrong_entry.result ≡ b
    → cond b c.args.lowest ((parts c).slot c.args.j + 1) ≡ lowest_after (parts c) c.args.lowest c.args.j
next c b e = ap (λ (t : Bool). cond t c.args.lowest ((parts c).slot c.args.j + 1)) (sym (tested c ∙ e))

pub returns-then-wrong_entry : goal.returns-then-wrong_entry
returns-then-wrong_entry c = next (goal.at.returns-then-wrong_entry c).After-wrong_entry _ c.if-wrong_entry.true

pub overflow_add-result : goal.overflow_add-result
overflow_add-result c =
    let z = (goal.at.overflow_add-result c).After-wrong_entry in
    let right = right_entry-of-test _ _ _ _ _ (tested z ∙ c.if-wrong_entry.false) in
    omega (arith, right.inside, c.get64-slot.ensures)

pub returns : goal.returns
returns c =
    ap (λ (x : ℕ). x + 1) c.get64-slot.ensures ∙ next (goal.at.returns c).After-wrong_entry _ c.if-wrong_entry.false
