-- What a machine keeps of a state, without the keys of its nodes and the cells of its holes: docs/MACHINE.md, "Layout".
use Rattle.std.specs.Prelude.{ℕ, Bool, List, drop, map, take, Option, Some, None}
use Rattle.std.specs.List.{filter_map}
use Rattle.hep_machine.specs.Words.{Value}
use Rattle.hep_machine.specs.declared.event.Fault.{Fault}
use Rattle.hep_machine.specs.declared.record.Item.{Item}
use Rattle.hep_machine.specs.declared.slot.Slot.{Slot}
use Rattle.hep_layout.specs.Words.{Nodes}
use Rattle.hep_proc.specs.declared.process.Local.{Local}
use Rattle.hep_proc.specs.Stacks.{Stack}
use Rattle.hep_state.specs.Words.{Snapshot, node_under}

-- ---- what is kept

-- the frame of a held activation: the number of the activation, its unit, the first cell, the number of its parent, 0 where it has none,
-- and what the cells hold
pub record HeldFrame : Type 0 where
  pub activation : ℕ
  pub unit : ℕ
  pub first : ℕ
  pub parent : ℕ
  pub cells : List Slot

-- an activation on a stack: its number, its unit, how many operands it keeps, and its index in the unit's code
pub record HeldLevel : Type 0 where
  pub activation : ℕ
  pub unit : ℕ
  pub kept : ℕ
  pub index : ℕ

-- a process: its activations, the top one first, the operands of that one, and those of all others
pub record HeldStack : Type 0 where
  pub levels : List HeldLevel
  pub operands : List Value
  pub pending : List Value

-- all that a machine keeps: the frames by the numbers of their activations, and the processes by their own
pub record Contents : Type 0 where
  pub activations : ℕ
  pub halted : Bool
  pub common : List Slot
  pub frames : List HeldFrame
  pub processes : List HeldStack
  pub records : List (List Item)
  pub faults : List Fault

-- ---- the contents of a machine

-- the keys that are there
abbrev pub keys_among : List (Option ℕ) → List ℕ
keys_among keys = filter_map (λ (key : Option ℕ). key) keys

-- what a number of cells hold, from one on
abbrev pub cells_from : List Slot → ℕ → ℕ → List Slot
cells_from contents first count = take count (drop first contents)

module _ (nodes : Nodes) where
  -- the activation whose node is under a key
  abbrev pub activation_at : ℕ → ℕ
  activation_at key = (node_under nodes key).activation

  abbrev pub number_at : Option ℕ → ℕ
  number_at None = 0
  number_at (Some key) = activation_at key

  abbrev pub frame_at : List Slot → ℕ → HeldFrame
  frame_at contents key =
      record {
        activation = activation_at key;
        unit = (node_under nodes key).unit;
        first = (node_under nodes key).first;
        parent = number_at (node_under nodes key).parent;
        cells = cells_from contents (node_under nodes key).first (node_under nodes key).cells;
      }

  abbrev pub level_of : Local → HeldLevel
  level_of l = record { activation = activation_at l.key; unit = l.unit; kept = l.kept; index = l.index }

  abbrev pub held_stack : Stack → HeldStack
  held_stack k = record { levels = map level_of k.levels; operands = k.operands; pending = k.pending }

-- what a machine keeps, where COMMON has so many cells, and the nodes of held activations are under these keys
abbrev pub contents_of : Snapshot → ℕ → List (Option ℕ) → Contents
contents_of m common keys =
    record {
      activations = m.activations;
      halted = m.halted;
      common = cells_from m.arena.contents 0 common;
      frames = map (frame_at m.nodes m.arena.contents) (keys_among keys);
      processes = map (held_stack m.nodes) m.processes;
      records = m.records;
      faults = m.faults;
    }
