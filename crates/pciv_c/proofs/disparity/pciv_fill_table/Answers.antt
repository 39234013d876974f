-- Proves pciv_c::disparity::pciv_fill_table.
use Rattle.pciv_c_cells.proofs.CellsLaws.{told-table}
use Rattle.pciv_c.proofs.disparity.pciv_fill_table.Goals as goal

pub returns : goal.returns
returns c = record { told = told-table _ c.fill_table.ensures.answer c.tell_table.ensures.told }
