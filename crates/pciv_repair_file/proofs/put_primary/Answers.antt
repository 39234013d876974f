-- Proves pciv_repair_file::put_primary: where no byte is set, a copy of all of them.
use Rattle.std.proofs.Common.{sym, ap, ◌∙◌, arith}
use Rattle.std.proofs.lemmas.List.Edits.{sets}
use Rattle.pciv_repair_file.proofs.LoweredLaws.{primary-copy}
use Rattle.pciv_repair_file.proofs.put_primary.Goals as goal

pub returns-then-full-kept : goal.returns-then-full-kept
returns-then-full-kept c =
    let a = c.args in
    c.copy_bytes.ensures
    ∙ ap (sets a.out.now 40)
    (primary-copy a.file.now a.n a.k (λ i. (c.type_inv.file i).fits) (omega (arith, c.requires.parts_given.inside))
    (sym c.requires.kept_value.1 ∙ c.if-full-kept.true ∙ c.requires.kept_value.0))
