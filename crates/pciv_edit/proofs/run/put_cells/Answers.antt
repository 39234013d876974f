-- Proves pciv_edit::run::put_cells.
use Rattle.std.proofs.Common.{rules, arith, ◌+◌, ◌∷◌, [], List, ℕ, get_or, sym, ap, ◌∙◌}
use Rattle.std.proofs.lemmas.List.Edits.{sets}
use Rattle.pciv_bytes.proofs.WriteLaws.{sets-copy-more, sets-copy-end}
use Rattle.pciv_format.specs.Edit.{cells_of}
use Rattle.pciv_edit.proofs.EditListLaws.{three}
use Rattle.pciv_edit.proofs.run.put_cells.Goals as goal

pub loop-j-preserved : goal.loop-j-preserved
loop-j-preserved c =
    let l = c.loop-j in
    let a = c.args in
    let why = get_or a.why 0 0 ∷ get_or a.why 1 0 ∷ get_or a.why 2 0 ∷ [] in
    l.invariant
    ∙ sets-copy-more (cells_of why a.s a.moved) l.answers 0 (a.at + l.j) l.j (a.at + (l.j + 1)) (omega arith) (omega arith)

pub returns : goal.returns
returns c =
    let l = c.loop-j in
    let a = c.args in
    let why = get_or a.why 0 0 ∷ get_or a.why 1 0 ∷ get_or a.why 2 0 ∷ [] in
    sym (l.invariant ∙ sets-copy-end (cells_of why a.s a.moved) l.answers (a.at + l.j) l.j (omega arith))
    ∙ ap (λ (w : List ℕ). sets a.answers.now a.at (cells_of w a.s a.moved)) (three a.why (search rules))
