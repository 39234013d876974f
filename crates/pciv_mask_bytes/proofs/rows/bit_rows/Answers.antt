-- Proves pciv_mask_bytes::rows::bit_rows: the rule of the table, by one test that is computed over all of it.
use Rattle.std.proofs.Common.{refl}
use Rattle.pciv_bytes.specs.Ranges.{table}
use Rattle.pciv_format.specs.Mask.{bit_at}
use Rattle.pciv_mask_bytes.specs.Rows.{bit_rows}
use Rattle.pciv_mask_bytes.proofs.rows.bit_rows.Goals as goal

pub returns : goal.returns
unfolding bit_rows table bit_at
returns c = refl
