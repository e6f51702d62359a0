-- The view of a state, by which states are compared: docs/MACHINE.md, "What is compared".
use Rattle.std.specs.Prelude.{ℕ, zero, suc, Bool, false, nat_eq, if◌then◌else◌, List, [], ◌∷◌, ◌++◌, Option}
use Rattle.std.specs.List.{flat_map}
use Rattle.hep_machine.specs.declared.event.Fault.{Fault}
use Rattle.hep_source.specs.declared.name.Name.{Name}
use Rattle.hep_machine.specs.declared.record.Item.{Item}
use Rattle.hep_source.specs.declared.statement.Statement.{Statement}
use Rattle.hep_machine.specs.Constants.{cells_of}
use Rattle.hep_machine.specs.Declarations.{BlockName, blocks_of}
use Rattle.hep_machine.specs.Layout.{block_cells}
use Rattle.hep_machine.specs.State.{Activation, Dummy, Process, State, Cell, Location, local, common, Store}
use Rattle.hep_machine.specs.Step.{Wanted, wanted_by}
use Rattle.hep_machine.specs.Storage.{further}
use Rattle.hep_source.specs.Units.{Units, unit_at, line_at}
use Rattle.hep_machine.specs.Variables.{locals_of}
use Rattle.hep_machine.specs.Processes.{unit_of}

-- ---- processes

-- the view of a living process: its number, the unit and the line of its top statement, and what it waits for, if it waits
pub record ProcessView : Type 0 where
  pub process : ℕ
  pub unit : ℕ
  pub line : ℕ
  pub wanted : Option Wanted

abbrev pub process_view_of : Units → State → ℕ → Process → List ProcessView
process_view_of program s p [] = []
process_view_of program s p (level ∷ levels) =
    record {
      process = p;
      unit = unit_of s level.activation;
      line = line_at (unit_at program (unit_of s level.activation)) level.statement;
      wanted = wanted_by program p s;
    } ∷ []

abbrev pub process_views_from : Units → State → ℕ → List Process → List ProcessView
process_views_from program s p [] = []
process_views_from program s p (q ∷ qs) = process_view_of program s p q ++ process_views_from program s (suc p) qs

-- ---- storage

-- a location, and its cell
pub record CellView : Type 0 where
  pub at : Location
  pub cell : Cell

abbrev pub cell_view : Store → Location → CellView
cell_view store at = record { at = at; cell = store at }

abbrev pub cells_at : Store → Location → ℕ → List CellView
cells_at store at zero = []
cells_at store at (suc n) = cell_view store at ∷ cells_at store (further at 1) n

abbrev pub cells_of_local : Store → ℕ → List Statement → Name → List CellView
cells_of_local store a unit x = cells_at store (local a x 1) (cells_of unit x)

abbrev pub is_owned : ℕ → Location → Bool
is_owned a (local b x i) = nat_eq a b
is_owned a (common b k) = false

-- the cell of a dummy argument that is associated with an expression; any other dummy argument owns none
abbrev pub cells_of_dummy : Store → ℕ → Dummy → List CellView
cells_of_dummy store a d = if is_owned a d.start then cell_view store d.start ∷ [] else []

-- the storage units that an activation owns
abbrev pub cells_of_activation : Units → Store → ℕ → Activation → List CellView
cells_of_activation program store a x =
    flat_map (cells_of_local store a (unit_at program x.unit)) (locals_of (unit_at program x.unit)) ++ flat_map (cells_of_dummy store a) x.dummies

abbrev pub cells_from : Units → (State → ℕ → Bool) → State → ℕ → List Activation → List CellView
cells_from program has s a [] = []
cells_from program has s a (x ∷ xs) =
    (if has s a then cells_of_activation program s.store a x else []) ++ cells_from program has s (suc a) xs

abbrev pub cells_of_block : Units → Store → BlockName → List CellView
cells_of_block program store b = cells_at store (common b 1) (block_cells program b)

-- ---- the view

-- the view: records, faults, whether the machine is halted, each living process with its statement, and the cells of COMMON and of every
-- variable of the activations that have frames, each with its location
pub record View : Type 0 where
  pub records : List (List Item)
  pub faults : List Fault
  pub halted : Bool
  pub processes : List ProcessView
  pub common_contents : List CellView
  pub cells : List CellView

abbrev pub view_of : Units → (State → ℕ → Bool) → State → View
view_of program has s =
    record {
      records = s.records;
      faults = s.faults;
      halted = s.halted;
      processes = process_views_from program s 1 s.processes;
      common_contents = flat_map (cells_of_block program s.store) (blocks_of program);
      cells = cells_from program has s 1 s.activations;
    }
