-- The frame of a main program, by tables of its variables: docs/MACHINE.md, "Variables and frames".
use Rattle.std.specs.Prelude.{◌≡◌, ◌≤◌, ℕ, List, map, Option}
use Rattle.std.specs.Option.{unwrap_or}
use Rattle.hep_machine.specs.Words.{Name, Statement, Units, main_unit, unit_at, common_cells, frame_cells}
use Rattle.hep_code.specs.declared.variable.Variable.{Variable}
use Rattle.hep_code.specs.declared.variable.Variable.TheVariants.{Absent}
use Rattle.hep_image.specs.declared.array.Array.{Array}
use Rattle.hep_image.specs.Places.{array_of, arrays_of, variable_of}

-- the tables are those of the main program of this program, and neither COMMON nor its frame has more cells than an arena may have
pub record IsMainFrame (program : Units) (unit : List Statement) (table : Name → Option Variable) (arrays : List Array) (common : ℕ) : Type 0 where
  pub main : unit ≡ unit_at program (main_unit program)
  pub placed : (x : Name) → unwrap_or (table x) Absent ≡ variable_of program unit x
  pub listed : arrays ≡ map (array_of program unit) (arrays_of unit)
  pub shared : common ≡ common_cells program
  pub few_shared : common_cells program ≤ 16777216
  pub few_own : frame_cells unit ≤ 16777216
