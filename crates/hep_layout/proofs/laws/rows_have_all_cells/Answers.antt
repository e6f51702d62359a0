use Rattle.hep_layout.proofs.CommonRows.{block_row-below, block_row-cells, common_row-cells}
use Rattle.hep_layout.proofs.FrameRows.{frame_row-cells}
use Rattle.hep_layout.proofs.laws.rows_have_all_cells.Goals as goal

pub returns : goal.returns
returns c = record { frame = frame_row-cells; common = common_row-cells; block = block_row-cells; greatest = block_row-below }
