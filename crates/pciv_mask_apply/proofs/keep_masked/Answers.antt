-- Proves pciv_mask_apply::keep_masked.
use Rattle.pciv_format.specs.Mask.{keep_masked_outcome, keep_masked_buffer}
use Rattle.pciv_mask_apply.proofs.keep_masked.Goals as goal

pub returns : goal.returns
unfolding keep_masked_outcome keep_masked_buffer
returns c = c.mask_map.ensures
