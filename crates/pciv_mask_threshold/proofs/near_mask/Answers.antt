-- Proves pciv_mask_threshold::near_mask.
use Rattle.pciv_format.specs.Mask.{near_mask_outcome, near_mask_words}
use Rattle.pciv_mask_threshold.proofs.near_mask.Goals as goal

pub returns : goal.returns
unfolding near_mask_outcome near_mask_words
returns c = c.select.ensures
