-- A core's machine keeps a state of the source machine: docs/MACHINE.md, "Activations and processes" and "Layout".
use Rattle.std.specs.Prelude.{◌≡◌, ◌+◌, ◌-◌, ℕ, true, List, [], ◌∷◌, drop, length, take, Some}
use Rattle.hep_machine.specs.Words.{Value, Units, unit_at, Layout, is_held, numbered, Process, State}
use Rattle.hep_machine.specs.declared.slot.Slot.{Slot}
use Rattle.hep_code.specs.Words.{AreLevels, CodeLevel}
use Rattle.hep_layout.specs.Words.{is_stacked, Nodes}
use Rattle.hep_image.specs.Places.{addresses_of}
use Rattle.hep_image.specs.BoundActivations.{AreKept}
use Rattle.hep_proc.specs.FrameTable.{Keeps, frames_in}
use Rattle.hep_step.specs.Simulation.{counts_in}
use Rattle.hep_proc.specs.declared.process.Local.{Local}
use Rattle.hep_proc.specs.Stacks.{Stack}
use Rattle.hep_state.specs.TopPlace.{IsThere, node_under}
use Rattle.hep_state.specs.Snapshots.{Snapshot}

-- ---- levels

module _ (program : Units) (contents : List Slot) (nodes : Nodes) where
  -- a level in the code, with its operands: its activation is that of the node under its key, and the counts of its
  -- DOs are in the cells of that activation's frame
  abbrev pub code_level : List Value → Local → CodeLevel
  code_level operands l =
      record {
        activation = (node_under nodes l.key).activation;
        unit = l.unit;
        index = l.index;
        operands = operands;
        counts = counts_in (unit_at program l.unit) contents (node_under nodes l.key).first;
      }

  -- the levels below the top one, the upper first: each has as many operands as it keeps, from the end of the pending
  -- ones, and those below it have the rest
  abbrev pub levels_below : List Value → List Local → List CodeLevel
  levels_below pending [] = []
  levels_below pending (l ∷ ls) = code_level (drop (length pending - l.kept) pending) l ∷ levels_below (take (length pending - l.kept) pending) ls

  -- the levels of a process
  abbrev pub code_levels : List Value → List Value → List Local → List CodeLevel
  code_levels operands pending [] = []
  code_levels operands pending (l ∷ ls) = code_level operands l ∷ levels_below pending ls

-- the number of operands that these levels keep
abbrev pub kept_by : List Local → ℕ
kept_by [] = 0
kept_by (l ∷ ls) = l.kept + kept_by ls

abbrev pub kept_below : List Local → ℕ
kept_below [] = 0
kept_below (l ∷ ls) = kept_by ls

-- each of these levels has its unit and its node
abbrev pub AreThere : Units → Nodes → List Local → Type 0
AreThere program nodes [] = Unit {0}
AreThere program nodes (l ∷ ls) = IsThere program nodes l × AreThere program nodes ls

-- ---- processes

-- a kept process is this process of a state, in the code, and all pending operands are kept by its levels
pub record IsStack (program : Units) (s : State) (contents : List Slot) (nodes : Nodes) (k : Stack) (q : Process) : Type 0 where
  pub there : AreThere program nodes k.levels
  pub levels : AreLevels program (addresses_of program) s (code_levels program contents nodes k.operands k.pending k.levels) q
  pub counted : length k.pending ≡ kept_below k.levels

-- ---- states

-- the machine keeps a state whose held activations have the frames of a layout: their storage units and their nodes,
-- the place of each process, also of ended ones, and what was written; and what dummy arguments on stacks are
-- associated with is in consecutive cells
pub record Shows (program : Units) (s : State) (layout : Layout) (m : Snapshot) : Type 0 where
  pub keeps : Keeps (frames_in program s (is_held s) layout) m.arena m.nodes
  pub kept : (a : ℕ) → is_stacked s a ≡ true → AreKept program s layout a
  pub processes : length m.processes ≡ length s.processes
  pub stacks : (p : ℕ) (k : Stack) (q : Process) → numbered m.processes p ≡ Some k → numbered s.processes p ≡ Some q → IsStack program s m.arena.contents m.nodes k q
  pub activations : m.activations ≡ length s.activations
  pub records : m.records ≡ s.records
  pub faults : m.faults ≡ s.faults
  pub halted : m.halted ≡ s.halted
