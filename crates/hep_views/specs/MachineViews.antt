-- The view of a machine, read from what it keeps: docs/MACHINE.md, "What is compared".
use Rattle.std.specs.Prelude.{ℕ, zero, suc, List, [], ◌∷◌, ◌++◌, drop, Option, Some, None}
use Rattle.hep_machine.specs.Words.{Value, Units, unit_at, CellView, ProcessView, View}
use Rattle.hep_machine.specs.declared.slot.Slot.{Slot}
use Rattle.hep_code.specs.Words.{line_ahead}
use Rattle.hep_layout.specs.Words.{FrameNode}
use Rattle.hep_views.specs.StoredContents.{common_read, frame_read}
use Rattle.hep_step.specs.Simulation.{unit_code}
use Rattle.hep_proc.specs.declared.process.Local.{Local}
use Rattle.hep_proc.specs.Stacks.{Stack}
use Rattle.hep_state.specs.Words.{Snapshot}
use Rattle.hep_views.specs.Nodes.{node_of}
use Rattle.hep_views.specs.SeenWaits.{wanted_on}

-- ---- processes

-- the place of a process's top activation, and what it waits for; a process without one has ended
abbrev pub process_seen : Units → Snapshot → ℕ → List Local → List Value → List ProcessView
process_seen program m p [] operands = []
process_seen program m p (l ∷ ls) operands =
    record { process = p; unit = l.unit; line = line_ahead (drop l.index (unit_code program l.unit)); wanted = wanted_on program m l operands } ∷ []

-- the processes from this number on
abbrev pub processes_seen : Units → Snapshot → ℕ → List Stack → List ProcessView
processes_seen program m p [] = []
processes_seen program m p (k ∷ ks) = process_seen program m p k.levels k.operands ++ processes_seen program m (suc p) ks

-- ---- frames

abbrev pub frame_seen : Units → List Slot → ℕ → Option FrameNode → List CellView
frame_seen program contents a None = []
frame_seen program contents a (Some n) = frame_read contents a (unit_at program n.unit) n.first

-- the frames of n activations from this number on, if they are held
abbrev pub frames_seen : Units → Snapshot → ℕ → ℕ → List CellView
frames_seen program m a zero = []
frames_seen program m a (suc n) = frame_seen program m.arena.contents a (node_of m a) ++ frames_seen program m (suc a) n

-- ---- all of it

abbrev pub machine_view : Units → Snapshot → View
machine_view program m =
    record {
      records = m.records;
      faults = m.faults;
      halted = m.halted;
      processes = processes_seen program m 1 m.processes;
      common_contents = common_read program m.arena.contents;
      cells = frames_seen program m 1 m.activations;
    }
