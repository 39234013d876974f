-- Proves pciv_repair_file::index::same_index: another length decides it, else the entries do.
use Rattle.std.proofs.Common.{ℕ, ◌*◌, sym, ap, ◌∙◌, arith}
use Rattle.pciv_format.specs.Layout.{index_len}
use Rattle.pciv_format.proofs.LayoutLaws.{index_len-le, index_step-le}
use Rattle.pciv_repair_file.proofs.IndexLaws.{kept_small, length-after, index-other}
use Rattle.pciv_repair_file.proofs.index.same_index.Goals as goal

pub index_len-requires : goal.index_len-requires
index_len-requires c =
    omega (arith, c.requires.kept_value, kept_small _ _ _ (λ i. (c.type_inv.file i).fits) c.requires.parts_given)

pub overflow_mul-index_len : goal.overflow_mul-index_len
overflow_mul-index_len c =
    let kept : ℕ = c.args.kept in
    omega (
      arith,
      c.index_len.ensures,
      index_len-le kept,
      index_step-le kept,
      c.requires.kept_value,
      kept_small _ _ _ (λ i. (c.type_inv.file i).fits) c.requires.parts_given,
    )

pub returns-then-file-index : goal.returns-then-file-index
returns-then-file-index c =
    let a = c.args in
    sym
    (index-other a.file.now a.n a.k (λ i. (c.type_inv.file i).fits) c.requires.parts_given
    (λ e. c.if-file-index.true (sym (length-after _ _ _ (λ i. (c.type_inv.file i).fits) c.requires.parts_given) ∙ e
    ∙ ap (λ (x : ℕ). 16 * x) (sym (c.index_len.ensures ∙ ap index_len c.requires.kept_value)))))
