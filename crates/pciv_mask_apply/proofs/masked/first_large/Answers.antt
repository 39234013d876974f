-- Proves pciv_mask_apply::masked::first_large.
use Rattle.pciv_mask_apply.proofs.KeptLaws.{kept_small}
use Rattle.pciv_mask_apply.proofs.masked.first_large.Goals as goal

pub returns-in-Keep : goal.returns-in-Keep
returns-in-Keep c =
    let a = c.args in
    rw c.in-Keep.is
    (kept_small a.file.now a.n a.k c.requires.checked_map (λ i. (c.type_inv.file i).fits) a.words.now)
