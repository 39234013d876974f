-- Proves pciv_check::check_with: a header that passes, before bytes enough, has the parts inside.
use Rattle.std.proofs.Common.{sym, ◌∙◌}
use Rattle.pciv_check.proofs.RefusalLaws.{wrong_length-fits, header-inside}
use Rattle.pciv_check.proofs.check_with.Goals as goal

pub check_parts-requires : goal.check_parts-requires
check_parts-requires c =
    let a = c.args in
    header-inside a.map a.file.now _ (sym c.in_ok-counts.ensures)
    (wrong_length-fits a.whole _ _ (sym c.wrong_length.ensures ∙ c.if-wrong_length.false))
