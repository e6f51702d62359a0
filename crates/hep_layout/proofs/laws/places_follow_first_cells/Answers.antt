use Rattle.hep_machine.specs.Words.{same_name, same_block}
use Rattle.hep_layout.specs.Words.{block_row, common_row, frame_row, same_part}
use Rattle.hep_layout.proofs.Rows.{place-is}
use Rattle.hep_layout.proofs.laws.places_follow_first_cells.Goals as goal

pub returns : goal.returns
returns c = record {
  frame = λ unit part i. place-is (same_part part) i (frame_row unit);
  common = λ program b i. place-is (same_block b) i (common_row program);
  block = λ unit b x i. place-is (same_name x) i (block_row unit b);
}
