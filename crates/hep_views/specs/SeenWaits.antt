-- What processes wait for, read from a machine: docs/MACHINE.md, "What is compared" and "Layout".
use Rattle.std.specs.Prelude.{ℕ, zero, suc, ◌+◌, ◌-◌, ◌&&◌, nat_le, nat_lt, if◌then◌else◌, List, [], ◌∷◌, ◌++◌, drop, Option, Some, None}
use Rattle.std.specs.Option.{option_map, option_or}
use Rattle.hep_machine.specs.Words.{Statement, Value, Units, unit_at, BlockName, common_cells, numbered, Location, common, local, Wanted}
use Rattle.hep_machine.specs.declared.slot.Slot.{Slot}
use Rattle.hep_code.specs.declared.instruction.Instruction.{Instruction}
use Rattle.hep_code.specs.declared.instruction.Instruction.TheVariants.{Push}
use Rattle.hep_layout.specs.Words.{FramePart, argument, common_row, frame_row, owner_in, variable, FrameNode}
use Rattle.hep_image.specs.declared.array.Array.{Array}
use Rattle.hep_step.specs.Effects.{Effect, effect_ahead, waits}
use Rattle.hep_step.specs.Simulation.{unit_arrays, unit_code}
use Rattle.hep_proc.specs.declared.process.Local.{Local}
use Rattle.hep_proc.specs.Stacks.{Stack}
use Rattle.hep_state.specs.Words.{node_under, Snapshot}
use Rattle.hep_views.specs.Nodes.{node_of}

-- ---- the storage unit in a cell

-- of an activation: variables, and dummy arguments that are associated with expressions
abbrev pub unit_of_part : ℕ → Option (FramePart × ℕ) → Option Location
unit_of_part a (Some (variable x, i)) = Some (local a x (suc i))
unit_of_part a (Some (argument x, zero)) = Some (local a x 1)
unit_of_part a _ = None

-- in the frame of an activation of a unit, n cells after the first one
abbrev pub unit_in_frame : ℕ → List Statement → ℕ → Option Location
unit_in_frame a unit n = unit_of_part a (owner_in (frame_row unit) n)

abbrev pub unit_of_block : Option (BlockName × ℕ) → Option Location
unit_of_block None = None
unit_of_block (Some (b, i)) = Some (common b (suc i))

-- in COMMON, which is at the arena's front
abbrev pub unit_in_common : Units → ℕ → Option Location
unit_in_common program cell = unit_of_block (owner_in (common_row program) cell)

-- the frame of activation a, if it has one, has the cell
abbrev pub unit_under : Units → ℕ → ℕ → Option FrameNode → Option Location
unit_under program cell a None = None
unit_under program cell a (Some n) = if nat_le n.first cell && nat_lt cell (n.first + n.cells) then unit_in_frame a (unit_at program n.unit) (cell - n.first) else None

-- that of one of n activations from this number on
abbrev pub unit_among : Units → Snapshot → ℕ → ℕ → ℕ → Option Location
unit_among program m cell a zero = None
unit_among program m cell a (suc n) = option_or (unit_under program cell a (node_of m a)) (unit_among program m cell (suc a) n)

-- the storage unit that a cell of the arena keeps, if it keeps one
abbrev pub unit_kept_at : Units → Snapshot → ℕ → Option Location
unit_kept_at program m cell = if nat_lt cell (common_cells program) then unit_in_common program cell else unit_among program m cell 1 m.activations

-- ---- what a process waits for

-- the effect of the next operation, after the leading constants are pushed
abbrev pub effect_behind : List Instruction → List Array → ℕ → List Slot → List Instruction → List Value → ℕ → Effect
effect_behind code arrays first contents (Push v ∷ is) operands index = effect_behind code arrays first contents is (operands ++ v ∷ []) (suc index)
effect_behind code arrays first contents is operands index = effect_ahead code arrays first is contents operands index

abbrev pub wanted_for : Units → Snapshot → Effect → Option Wanted
wanted_for program m (waits cell full) = option_map (λ at. record { at = at; full = full }) (unit_kept_at program m cell)
wanted_for program m _ = None

-- that of an activation at a level, with these operands
abbrev pub wanted_on : Units → Snapshot → Local → List Value → Option Wanted
wanted_on program m l operands =
    wanted_for program m (effect_behind (unit_code program l.unit) (unit_arrays program l.unit) (node_under m.nodes l.key).first m.arena.contents (drop l.index (unit_code program l.unit)) operands l.index)

abbrev pub wanted_by_levels : Units → Snapshot → List Local → List Value → Option Wanted
wanted_by_levels program m [] operands = None
wanted_by_levels program m (l ∷ ls) operands = wanted_on program m l operands

abbrev pub wanted_by_stack : Units → Snapshot → Option Stack → Option Wanted
wanted_by_stack program m None = None
wanted_by_stack program m (Some k) = wanted_by_levels program m k.levels k.operands

-- what process p waits for, if it does
abbrev pub wanted_seen : Units → Snapshot → ℕ → Option Wanted
wanted_seen program m p = wanted_by_stack program m (numbered m.processes p)
