-- Proves pciv_build::slots::find_full: of the bytes, 255 alone is not below 255.
use Rattle.pciv_build.proofs.FullWordLaws.{tell-full}
use Rattle.pciv_build.proofs.slots.find_full.Goals as goal

pub returns : goal.returns
returns c =
    let a = c.args in
    rw c.flags_into.ensures
    (tell-full a.file.now a.words.now a.from a.to (λ i. (c.type_inv.file i).fits) c.requires.0 c.requires.1 c.requires.2)
