-- The lines of units and common blocks, with the cells that they take: docs/MACHINE.md, "Variables and frames" and "Layout".
use Rattle.std.specs.Prelude.{ℕ, List, ◌++◌, codes}
use Rattle.std.specs.Fmt.{decimal}
use Rattle.std.specs.List.{flat_map}
use Rattle.hep_machine.specs.Words.{block_spelling, Units, unit_name, Statement, BlockName, blocks_of, block_cells, frame_cells}

abbrev pub unit_text : List ℕ → ℕ → List ℕ
unit_text name cells = codes "UNIT " ++ name ++ codes " CELLS " ++ decimal cells ++ codes "\n"

abbrev pub block_text : List ℕ → ℕ → List ℕ
block_text name cells = codes "BLOCK /" ++ name ++ codes "/ CELLS " ++ decimal cells ++ codes "\n"

-- the line of a unit: the cells of its frame
abbrev pub unit_line : List Statement → List ℕ
unit_line unit = unit_text (unit_name unit) (frame_cells unit)

-- the line of a common block, with its greatest length
abbrev pub block_line : Units → BlockName → List ℕ
block_line program b = block_text (block_spelling b) (block_cells program b)

-- the units in the order of the source, then the blocks in the order of their first appearance
abbrev pub listing : Units → List ℕ
listing program = flat_map unit_line program ++ flat_map (block_line program) (blocks_of program)
