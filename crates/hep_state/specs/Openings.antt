-- The machine before the first step: docs/MACHINE.md, "The opening and runs".
use Rattle.std.specs.Prelude.{◌≡◌, ◌≤◌, ℕ, false, List, [], ◌∷◌, length, nat_eq, slice_get, Some, IsSome, vec_capacity}
use Rattle.std.specs.Option.{option_map}
use Rattle.hep_machine.specs.Words.{Units, main_unit, unset_cell, Layout, opening_layout, cell_given, run, State}
use Rattle.hep_arena.specs.Space.{Space}
use Rattle.hep_layout.specs.Words.{FrameNode, Nodes}
use Rattle.hep_code.specs.Words.{deepest}
use Rattle.hep_image.specs.declared.data.DataRow.{DataRow}
use Rattle.hep_image.specs.Data.{value_in_rows}
use Rattle.hep_image.specs.Image.{most_cells}
use Rattle.hep_step.specs.Simulation.{unit_code}
use Rattle.hep_proc.specs.declared.process.Process.{Process}
use Rattle.hep_proc.specs.FrameTable.{Keeps, frames_in}
use Rattle.hep_state.specs.declared.core_state.CoreState.{CoreState}
use Rattle.hep_state.specs.Snapshots.{Snapshot}

-- a machine of a program can be opened with an arena of this many cells: one at least, no more than it may have, and
-- enough for COMMON and the frame of the main program
abbrev pub CanOpen : Units → ℕ → Type 0
CanOpen program cells = (1 ≤ cells) × (cells ≤ most_cells) × IsSome (opening_layout program cells)

-- the opening before DATA gives values
abbrev pub unset_opening : Units → State
unset_opening program = record (run program []) { store = λ at. unset_cell }

-- an arena with the values of rows
pub record IsGiven (rows : List DataRow) (before after : Space) : Type 0 where
  pub holes_are : after.holes ≡ before.holes
  pub size : length after.contents ≡ length before.contents
  pub given : (p : ℕ) → slice_get after.contents p ≡ option_map (cell_given (value_in_rows rows p)) (slice_get before.contents p)

-- the frame of the main program's activation has entered, with its node under a key
pub record IsEntered (program : Units) (cells key : ℕ) (arena : Space) (nodes : Nodes) : Type 0 where
  pub layout : Layout
  pub laid : opening_layout program cells ≡ Some layout
  pub size : length arena.contents ≡ cells
  pub keeps : Keeps (frames_in program (unset_opening program) (λ a. nat_eq a 1) layout) arena nodes
  pub node : FrameNode
  pub there : nodes key ≡ Some node
  pub first : node.activation ≡ 1

-- process 1 is at an index of the main program
abbrev pub snapshot_opened : Units → ℕ → ℕ → Space → Nodes → Snapshot
snapshot_opened program key entry arena nodes =
    record {
      arena = arena;
      nodes = nodes;
      processes = record { levels = record { key = key; unit = main_unit program; kept = 0; index = entry } ∷ []; operands = []; pending = [] } ∷ [];
      activations = 1;
      records = [];
      faults = [];
      halted = false;
    }

-- the machine keeps one process, with room for as many operands as the main program's deepest stack
pub record HasOneProcess (program : Units) (m : CoreState) : Type 0 where
  pub process : Process
  pub alone : m.processes.items ≡ process ∷ []
  pub room : vec_capacity process.operands ≡ deepest (unit_code program (main_unit program))

-- the machine has written nothing, and no STOP was executed
pub record IsQuiet (m : CoreState) : Type 0 where
  pub running : m.halted ≡ false
  pub records : m.records.items ≡ []
  pub faults : m.faults.items ≡ []
