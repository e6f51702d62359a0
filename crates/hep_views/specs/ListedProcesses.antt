-- The words for a waiting process: docs/MACHINE.md, "Lines of processes that wait".
use Rattle.std.specs.Prelude.{ℕ, if◌then◌else◌, Option, Some, None}
use Rattle.hep_machine.specs.Words.{Name, Units, line_at, unit_at, BlockName, is_array, living, unit_of, Level, Location, Process, State, common, local, Wanted, wanted_by}
use Rattle.hep_image.specs.Names.{block_number, variable_number}
use Rattle.hep_views.specs.declared.listed.Listed.{Listed}
use Rattle.hep_views.specs.declared.place.Place.{Place}

-- a variable of unit u in an activation, with the number of the element where it is an array
abbrev pub variable_place : Units → ℕ → Name → ℕ → ℕ → Place
variable_place program u x i owner =
    record { owner = owner; name = variable_number program u x; element = if is_array (unit_at program u) x then i else 0 }

-- a position of a common block
abbrev pub block_place : Units → BlockName → ℕ → Place
block_place program b i = record { owner = 0; name = block_number program b; element = i }

abbrev pub place_of : Units → State → Location → Place
place_of program s (local a x i) = variable_place program (unit_of s a) x i a
place_of program s (common b i) = block_place program b i

abbrev pub listed_at : Units → State → ℕ → Level → Wanted → Listed
listed_at program s p level w =
    record {
      process = p;
      unit = unit_of s level.activation;
      line = line_at (unit_at program (unit_of s level.activation)) level.statement;
      full = w.full;
      owner = (place_of program s w.at).owner;
      name = (place_of program s w.at).name;
      element = (place_of program s w.at).element;
    }

abbrev pub listed_with : Units → State → ℕ → Option (Level × Process) → Option Wanted → Option Listed
listed_with program s p (Some top) (Some w) = Some (listed_at program s p top.0 w)
listed_with program s p _ _ = None

-- the words for process p, if it lives and waits
abbrev pub listed_by : Units → ℕ → State → Option Listed
listed_by program p s = listed_with program s p (living s p) (wanted_by program p s)
