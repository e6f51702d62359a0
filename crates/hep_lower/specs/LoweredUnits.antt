-- The units of a program that were lowered so far.
use Rattle.std.specs.Prelude.{◌≡◌, ℕ, ◌≤◌, List, None, Some, length, slice_get}
use Rattle.hep_machine.specs.Words.{Units}
use Rattle.hep_code.specs.Words.{line_too_deep, most_instructions}
use Rattle.hep_image.specs.declared.data.DataRow.{DataRow}
use Rattle.hep_image.specs.declared.unit.UnitCode.{UnitCode}
use Rattle.hep_image.specs.Data.{AreInitial, AreOfUnits}
use Rattle.hep_image.specs.Image.{IsImage, IsUnitCode}
use Rattle.hep_accepted_laws.specs.PlacedCode.{code_in}
use Rattle.hep_lower.specs.declared.program.ImageTables.{ImageTables}
use Rattle.hep_lower.specs.declared.units.LoweredUnit.{LoweredUnit}
use Rattle.hep_lower.specs.declared.units.LoweredUnit.TheVariants.{Runnable, TooDeep}
use Rattle.hep_lower.specs.declared.units.LoweredUnits.{LoweredUnits}
use Rattle.hep_lower.specs.Refusals.{IsFirstDeep, instructions_in}

-- the result for unit u
abbrev pub IsUnit : Units → ℕ → LoweredUnit → Type 0
IsUnit program u (Runnable unit) = IsUnitCode program u unit × (line_too_deep (code_in program u) ≡ None) × (length (code_in program u) ≤ most_instructions)
IsUnit program u (TooDeep line instructions) =
    (line_too_deep (code_in program u) ≡ Some line) × (instructions ≡ length (code_in program u)) × (length (code_in program u) ≤ most_instructions)

-- the results for the first n units; all of them are kept as long as none is too deep
pub record AreUnits (program : Units) (n : ℕ) (units : LoweredUnits) : Type 0 where
  pub deep : IsFirstDeep program n units.too_deep
  pub counted : units.instructions ≡ instructions_in program n
  pub all : units.too_deep ≡ None → length units.codes.items ≡ n
  pub each : units.too_deep ≡ None → (u : ℕ) (unit : UnitCode) → slice_get units.codes.items u ≡ Some unit → IsUnitCode program u unit

-- the rows are the values of DATA at the opening
pub record AreRows (program : Units) (rows : List DataRow) : Type 0 where
  pub initial : AreInitial program rows
  pub of_units : AreOfUnits program rows

-- these are the parts of the image of a program besides it
abbrev pub AreTables : Units → ImageTables → Type 0
AreTables program tables = IsImage program tables.units tables.main tables.common tables.rows tables.names tables.blocks
