-- Proves pciv_repair::put_index: no line, or the one with both lengths.
use Rattle.std.proofs.Common.{◌≡◌, ℕ, ◌*◌, [], ◌∷◌, length, sym, ap, ap₂, ◌∙◌, arith}
use Rattle.std.proofs.lemmas.List.Edits.{sets}
use Rattle.pciv_format.specs.Layout.{index_len}
use Rattle.pciv_format.proofs.LayoutLaws.{index_len-le, index_step-le}
use Rattle.pciv_repair_file.specs.Repaired.{bytes_after, rebuilt_index}
use Rattle.pciv_repair_file.proofs.IndexLaws.{kept_small, length-after, length-rebuilt}
use Rattle.pciv_repair.specs.Repair.{index_lines, numbers_of}
use Rattle.pciv_repair.proofs.CountLaws.{index-none, index-one, no-numbers, one_number}
use Rattle.pciv_repair.proofs.put_index.Goals as goal
use Rattle.pciv_repair.proofs.put_index.Goals.{After-index_len}

-- there is one line
one : (c : After-index_len)
    → (let a = c.args in
    (length (index_lines a.file.now a.n a.k) ≡ 1)
    × (numbers_of (index_lines a.file.now a.n a.k)
    ≡ 4 ∷ 0 ∷ length (bytes_after a.file.now a.n a.k) ∷ length (rebuilt_index a.file.now a.n a.k) ∷ []))
one c =
    one_number _ _
    (index-one _ _ _ (λ i. (c.type_inv.file i).fits) c.requires.parts_given (sym c.requires.indexed_value ∙ c.if-indexed.false))

pub returns-then-indexed : goal.returns-then-indexed
returns-then-indexed c =
    let none =
    index-none _ _ _ (λ i. (c.type_inv.file i).fits) c.requires.parts_given (sym c.requires.indexed_value ∙ c.if-indexed.true) in
    (no-numbers _ none c.args.line c.args.list.now).1

pub index_len-requires : goal.index_len-requires
index_len-requires c =
    omega (arith, c.requires.kept_value, kept_small _ _ _ (λ i. (c.type_inv.file i).fits) c.requires.parts_given)

pub overflow_mul-index_len : goal.overflow_mul-index_len
overflow_mul-index_len c =
    let kept : ℕ = c.args.kept in
    omega (
      arith,
      c.index_len.ensures,
      index_len-le kept,
      index_step-le kept,
      c.requires.kept_value,
      kept_small _ _ _ (λ i. (c.type_inv.file i).fits) c.requires.parts_given,
    )

pub put_line-requires : goal.put_line-requires
put_line-requires c = omega (arith, (one (goal.at.put_line-requires c).After-index_len).0, c.requires.k_in_bounds)

pub returns : goal.returns
returns c =
    let a = c.args in
    let p = c.requires.parts_given in
    c.put_line.ensures.list
    ∙ ap₂ (λ (x y : ℕ). sets a.list.now (4 * a.line) (4 ∷ 0 ∷ x ∷ y ∷ []))
    (sym (length-after _ _ _ (λ i. (c.type_inv.file i).fits) p))
    (ap (λ (m : ℕ). 16 * m) (c.index_len.ensures ∙ ap index_len c.requires.kept_value)
    ∙ sym (length-rebuilt _ _ _ (λ i. (c.type_inv.file i).fits) p))
    ∙ ap (sets a.list.now (4 * a.line)) (sym (one (goal.at.returns c).After-index_len).1)
