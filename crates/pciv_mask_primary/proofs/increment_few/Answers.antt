-- Proves pciv_mask_primary::increment_few.
use Rattle.std.proofs.Common.{◌+◌, ◌∙◌}
use Rattle.pciv_mask_primary.proofs.ByteLaws.{raised-copied}
use Rattle.pciv_mask_primary.proofs.increment_few.Goals as goal

pub returns : goal.returns
returns c =
    let a = c.args in
    c.raise_set.ensures
    ∙ raised-copied a.file.now a.out.now _ (40 + a.i) a.word c.requires.0 c.requires.1
    c.copy_word.ensures
