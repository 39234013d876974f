-- Proves pciv_mask_apply::increment_masked.
use Rattle.pciv_format.specs.Mask.{increment_masked_outcome, increment_masked_buffer}
use Rattle.pciv_mask_apply.proofs.increment_masked.Goals as goal

pub returns : goal.returns
unfolding increment_masked_outcome increment_masked_buffer
returns c = c.mask_map.ensures
