use Rattle.std.proofs.Common.{◌<◌, subst}
use Rattle.hep_machine.specs.Words.{same_name, same_block}
use Rattle.hep_source.proofs.NameTests.{equal_names}
use Rattle.hep_machine.proofs.Locations.{equal_blocks}
use Rattle.hep_layout.specs.Words.{block_row, common_row, frame_row, same_part}
use Rattle.hep_layout.proofs.CommonRows.{block_row-cells, common_row-cells}
use Rattle.hep_layout.proofs.FrameRows.{equal_parts, frame_row-cells}
use Rattle.hep_layout.proofs.Rows.{owned-by}
use Rattle.hep_layout.proofs.laws.owners_share_no_cell.Goals as goal

pub returns-clause-frame : goal.returns-clause-frame
returns-clause-frame c unit part i n e =
    let found = owned-by (same_part part) part i (frame_row unit) n (equal_parts part) e in
    (found.0, subst (λ m. n < m) (frame_row-cells unit) found.1)

pub returns-clause-common : goal.returns-clause-common
returns-clause-common c program b i n e =
    let found = owned-by (same_block b) b i (common_row program) n (equal_blocks b) e in
    (found.0, subst (λ m. n < m) (common_row-cells program) found.1)

pub returns-clause-block : goal.returns-clause-block
returns-clause-block c unit b x i n e =
    let found = owned-by (same_name x) x i (block_row unit b) n (equal_names x) e in
    (found.0, subst (λ m. n < m) (block_row-cells unit b) found.1)
