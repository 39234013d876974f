-- Proves pciv_repair_file::kept::put_kept: where all entries are kept, a copy of all of them.
use Rattle.std.proofs.Common.{◌≡◌, ℕ, ◌+◌, ◌-◌, ◌*◌, take, drop, sym, ap, ◌∙◌, arith}
use Rattle.std.proofs.lemmas.List.Edits.{sets}
use Rattle.pciv_repair_file.proofs.CopyLaws.{kept-copy}
use Rattle.pciv_repair_file.proofs.kept.put_kept.Goals as goal

pub returns-then-kept-k : goal.returns-then-kept-k
returns-then-kept-k c =
    let a = c.args in
    let size : 40 + a.n + 12 * a.k - (40 + a.n) ≡ 12 * a.k = omega arith in
    c.copy_bytes.ensures
    ∙ ap (sets a.out.now (40 + a.n))
    (ap (λ (x : ℕ). take x (drop (40 + a.n) a.file.now)) size
    ∙ sym (kept-copy a.file.now a.n a.k (λ i. (c.type_inv.file i).fits) c.requires.parts_given.inside
    (sym c.requires.kept_value ∙ c.if-kept-k.true)))
