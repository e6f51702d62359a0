-- The variables in COMMON, as their lines need them: X3.9-1978, 8.3, and docs/RUNS.md, "What everything holds".
use Rattle.std.specs.Prelude.{◌≡◌, ℕ, true, Some, slice_get}
use Rattle.hep_arena.specs.Space.{Space}
use Rattle.hep_conditions.specs.Words.{IsAccepted}
use Rattle.hep_layout.specs.Words.{first_of_block}
use Rattle.hep_machine.specs.Words.{BlockName, Layout, State, Units, block_cells, blocks_of, is_block_among, names_in_block}
use Rattle.hep_state_text.specs.StoredVariables.{IsArenaOf}
use Rattle.hep_state_text.specs.declared.common_variables.NamedBlock.{NamedBlock}
use Rattle.hep_state_text.specs.declared.common_variables.Extent.{Extent}

-- a block of a program, with its greatest length and its first cell
pub record IsExtentOf (program : Units) (e : Extent) : Type 0 where
  pub cells : e.cells ≡ block_cells program e.block
  pub first : e.first ≡ first_of_block program e.block
  pub named : is_block_among e.block (blocks_of program) ≡ true

-- a unit's names in a block, whose first cell this is
pub record IsBlockAt (program : Units) (s : State) (layout : Layout) (block : NamedBlock) (arena : Space) : Type 0 where
  pub is_of : IsArenaOf program s layout arena
  pub accepted : IsAccepted program
  pub unit : ℕ
  pub unit_is : slice_get program unit ≡ Some block.symbols.now
  pub of : BlockName
  pub list_is : block.list.now ≡ names_in_block block.symbols.now of
  pub first_is : block.first ≡ first_of_block program of

abbrev pub IsBlockSomewhere : NamedBlock → Space → Type 0
IsBlockSomewhere block arena = (program : Units) × (s : State) × (layout : Layout) × IsBlockAt program s layout block arena
