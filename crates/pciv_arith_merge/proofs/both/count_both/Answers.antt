-- Proves pciv_arith_merge::both::count_both: either way the count is that of the minimum.
use Rattle.std.proofs.Common.{◌∙◌}
use Rattle.pciv_passes.specs.declared.pairs.ByteOp.TheVariants.{Min}
use Rattle.pciv_format.specs.declared.SlotOp.TheVariants.{Minimum}
use Rattle.pciv_arith_merge.proofs.CombineLaws.{checked-sound, same-minimum, combined-count}
use Rattle.pciv_arith_merge.proofs.both.count_both.Goals as goal

pub returns-then-n-min : goal.returns-then-n-min
returns-then-n-min c =
    c.count_full_slots.ensures
    ∙ combined-count Minimum Min same-minimum (checked-sound c.requires c.type_inv.a c.type_inv.b)
