-- The parts of an image of a program: docs/ARCHITECTURE.md, "Forms".
use Rattle.std.specs.Prelude.{◌≡◌, ℕ, ◌≤◌, List, map, length, slice_get, Some}
use Rattle.hep_machine.specs.Words.{Units, main_among, unit_at, common_cells, frame_cells}
use Rattle.hep_conditions.specs.Words.{IsAccepted}
use Rattle.hep_code.specs.Words.{deepest, most_operands, addressed_unit, entry_index, code_of}
use Rattle.hep_image.specs.Data.{AreInitial, AreOfUnits}
use Rattle.hep_image.specs.Dummies.{dummy_arguments}
use Rattle.hep_image.specs.Names.{AreNames}
use Rattle.hep_image.specs.Owners.{AreInOrder, block_starts, frame_variables}
use Rattle.hep_image.specs.Places.{addresses_of, arrays_of, array_of}
use Rattle.hep_image.specs.Private.{private_cells}
use Rattle.hep_image.specs.declared.data.DataRow.{DataRow}
use Rattle.hep_image.specs.declared.names.ProgramNames.{ProgramNames}
use Rattle.hep_image.specs.declared.owners.BlockStart.{BlockStart}
use Rattle.hep_image.specs.declared.unit.UnitCode.{UnitCode}

-- the greatest number of cells of a frame, and of COMMON: docs/LANGUAGE.md, "Limits"
abbrev pub most_cells : ℕ
most_cells = 16777216

-- the code of unit u of a program, with all else of a unit
pub record IsUnitCode (program : Units) (u : ℕ) (unit : UnitCode) : Type 0 where
  pub code : unit.code ≡ code_of (addressed_unit program (addresses_of program) u)
  pub entry : unit.entry ≡ entry_index (addressed_unit program (addresses_of program) u)
  pub arrays : unit.arrays ≡ map (array_of program (unit_at program u)) (arrays_of (unit_at program u))
  pub dummies : unit.dummies ≡ dummy_arguments program (unit_at program u)
  pub operands : unit.operands ≡ deepest unit.code
  pub few_operands : unit.operands ≤ most_operands
  pub cells : unit.cells ≡ frame_cells (unit_at program u)
  pub few_cells : unit.cells ≤ most_cells
  pub private_are : unit.private ≡ private_cells (unit_at program u)
  pub variables_are : unit.variables ≡ frame_variables (unit_at program u)
  pub in_order : AreInOrder unit.variables

-- an image of an accepted program with a main program has all of its units, the index of the main program, the number
-- of cells of COMMON, the values of DATA at the opening, the names, and the first cells of the common blocks
pub record IsImage (program : Units) (units : List UnitCode) (main common : ℕ) (rows : List DataRow) (names : ProgramNames) (blocks : List BlockStart) : Type 0 where
  pub accepted : IsAccepted program
  pub all : length units ≡ length program
  pub units_are : (u : ℕ) (unit : UnitCode) → slice_get units u ≡ Some unit → IsUnitCode program u unit
  pub main_is : main_among program ≡ Some main
  pub common_is : common ≡ common_cells program
  pub few_cells : common ≤ most_cells
  pub initial : AreInitial program rows
  pub of_units : AreOfUnits program rows
  pub named : AreNames program names
  pub blocks_are : blocks ≡ block_starts program
