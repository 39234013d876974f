-- Proves pciv_c::bundles::pciv_bundle_row.
use Rattle.pciv_c_cells.proofs.CellsLaws.{told-row}
use Rattle.pciv_c.proofs.bundles.pciv_bundle_row.Goals as goal

pub returns : goal.returns
returns c = record { told = told-row c.row.ensures.answer c.tell_row.ensures.told }
