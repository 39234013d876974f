-- Proves pciv_report::deliver.
use Rattle.std.proofs.Common.{◌∙◌}
use borrow.Author.Tests.{le-ltb}
use Rattle.pciv_bytes.proofs.WriteLaws.{sets-front}
use Rattle.pciv_report.proofs.deliver.Goals as goal

pub returns-clause-buffer : goal.returns-clause-buffer
returns-clause-buffer c =
    let a = c.args in
    let front = sets-front a.text.now a.out.now c.if-out-text.false in
    simp (le-ltb _ _ c.if-out-text.false) (c.put_word.ensures.bytes ∙ front)
