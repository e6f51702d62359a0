-- The first cells of common blocks: X3.9-1978, 8.3.3, and docs/MACHINE.md, "Layout".
use Rattle.std.specs.Prelude.{◌≡◌, ℕ, ◌<◌, ◌^◌, true, nat_le, if◌then◌else◌, unwrap_or}
use Rattle.std.specs.Option.{option_eq}
use Rattle.indexmap.specs.IndexMap.{get}
use Rattle.hep_machine.specs.Words.{name_eq, Units, BlockName, blocks_of, is_block_among, block_cells, common_cells}
use Rattle.hep_layout.specs.Words.{first_of_block}
use Rattle.hep_storage.specs.Lengths.{greatest_length}
use Rattle.hep_storage.specs.declared.common.CommonBlocks.{CommonBlocks}
use Rattle.hep_storage.specs.declared.starts.CommonStarts.{CommonStarts}

-- the blocks of a program, in order of first appearance, each at its greatest length (8.3.3)
pub record AreBlocks (program : Units) (c : CommonBlocks) : Type 0 where
  pub blocks_are : c.blocks.keys ≡ blocks_of program
  pub lengths_are : (b : BlockName) → greatest_length (get (option_eq name_eq) c.lengths b) ≡ block_cells program b
  pub bounded : common_cells program < 2 ^ 96

-- a number in 32 bits, or the greatest such number
abbrev pub narrowed : ℕ → ℕ
narrowed n = if nat_le n 4294967295 then n else 4294967295

-- the recorded start of a block
abbrev pub start_in : CommonStarts → BlockName → ℕ
start_in c b = unwrap_or (get (option_eq name_eq) c.starts b) 0

-- The table has the starts of all blocks of a program, and the number of their cells together.
pub record AreStarts (program : Units) (c : CommonStarts) : Type 0 where
  pub cells_are : c.cells ≡ common_cells program
  pub starts_are : (b : BlockName) → is_block_among b (blocks_of program) ≡ true → start_in c b ≡ narrowed (first_of_block program b)
