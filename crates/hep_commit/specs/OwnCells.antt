-- The own cells of an activation: docs/MACHINE.md, "Private steps".
use Rattle.std.specs.Prelude.{◌≡◌, ℕ, suc, Bool, false, nat_eq, if◌then◌else◌, List, [], ◌∷◌, ◌++◌, length, Option, Some, None, slice_get}
use Rattle.hep_machine.specs.Words.{Units, unit_at}
use Rattle.hep_code.specs.declared.instruction.Instruction.{Instruction}
use Rattle.hep_image.specs.Private.{private_cells}
use Rattle.hep_step.specs.Simulation.{unit_code}
use Rattle.hep_commit.specs.declared.own_cells.OwnCells.{OwnCells}
use Rattle.hep_private.specs.PrivateCode.{loop_at}

-- ---- the cells of all DOs in code; operations of one DO in a row add its cells only once

abbrev pub is_loop : Option ℕ → ℕ → Bool
is_loop None d = false
is_loop (Some e) d = nat_eq e d

-- after an operation of the DO `last`
abbrev pub cells_of_loop : Option ℕ → Option ℕ → List ℕ
cells_of_loop last None = []
cells_of_loop last (Some d) = if is_loop last d then [] else d ∷ suc d ∷ []

abbrev pub last_loop : Option ℕ → Option ℕ → Option ℕ
last_loop last None = last
last_loop last (Some d) = Some d

abbrev pub loop_cells_behind : Option ℕ → List Instruction → List ℕ
loop_cells_behind last [] = []
loop_cells_behind last (i ∷ is) = cells_of_loop last (loop_at i) ++ loop_cells_behind (last_loop last (loop_at i)) is

-- ---- own cells

-- the own cells of a unit with these private scalars and this code
abbrev pub own_cells_in : List ℕ → List Instruction → List ℕ
own_cells_in private code = private ++ loop_cells_behind None code

-- the own cells of a unit, by its index: those of its private scalars and of its DOs
abbrev pub own_cells_of : Units → ℕ → List ℕ
own_cells_of program u = own_cells_in (private_cells (unit_at program u)) (unit_code program u)

-- the own cells of each unit
pub record AreOwnCells (program : Units) (tables : List OwnCells) : Type 0 where
  pub all : length tables ≡ length program
  pub each : (u : ℕ) (table : OwnCells) → slice_get tables u ≡ Some table → table.cells.items ≡ own_cells_of program u
