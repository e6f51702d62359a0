-- The places of a core's processes in its machine: docs/MACHINE.md, "Private steps" and "Workers".
use Rattle.std.specs.Prelude.{◌≡◌, ◌<◌, ℕ, List, [], ◌∷◌, length, map, Option, Some, None}
use Rattle.hep_machine.specs.Words.{Value, Units, numbered, schedule_of}
use Rattle.hep_machine.specs.declared.slot.Slot.{Slot}
use Rattle.hep_code.specs.declared.instruction.Instruction.{Instruction}
use Rattle.hep_code.specs.Words.{IsPastPushes, left_to_do}
use Rattle.hep_layout.specs.Words.{Nodes}
use Rattle.hep_step.specs.Simulation.{unit_code}
use Rattle.hep_private.specs.OwnState.{values_at}
use Rattle.hep_proc.specs.declared.process.Local.{Local}
use Rattle.hep_proc.specs.Stacks.{Stack}
use Rattle.hep_commit.specs.Segments.{Start}
use Rattle.hep_state.specs.Words.{IsAfter, Snapshot, frame_under}
use Rattle.hep_core.specs.CoreValues.{CoreValue}

-- the unit of a process's top activation; the rest of the unit's code, with the operands put before it as constants;
-- the cells of the arena; and the first cell of its frame
pub record ProcessPlace : Type 0 where
  pub unit : ℕ
  pub left : List Instruction
  pub contents : List Slot
  pub first : ℕ

-- ---- in a machine

abbrev pub place_on : Units → List Slot → Nodes → List Value → List Local → Option ProcessPlace
place_on program contents nodes operands [] = None
place_on program contents nodes operands (l ∷ ls) =
    Some (
    record {
      unit = l.unit;
      left = left_to_do operands l.index (unit_code program l.unit);
      contents = contents;
      first = (frame_under nodes l.key).first;
    })

-- the place of each process, by its number
abbrev pub places_of : Units → Snapshot → List (Option ProcessPlace)
places_of program m = map (λ (k : Stack). place_on program m.arena.contents m.nodes k.operands k.levels) m.processes

-- the place is at this start, with all leading constants pushed and an operation next
pub record IsHere (program : Units) (place : ProcessPlace) (start : Start) : Type 0 where
  pub unit : start.unit ≡ place.unit
  pub left : left_to_do start.operands start.index (unit_code program start.unit) ≡ place.left
  pub values : start.values ≡ values_at place.contents place.first
  pub past : IsPastPushes (unit_code program start.unit) start.index
  pub inside : start.index < length (unit_code program start.unit)

-- ---- cores

-- a core, and the places of its processes
pub record PlacedCore : Type 0 where
  pub core : CoreValue
  pub places : List (Option ProcessPlace)

-- the places are those in a machine that keeps the state after the core's history
pub record ArePlaces (placed : PlacedCore) : Type 0 where
  pub machine : Snapshot
  pub after : IsAfter placed.core.program placed.core.cells (schedule_of placed.core.history) machine
  pub places : placed.places ≡ places_of placed.core.program machine

-- another core, with processes at the same places
abbrev pub with_core : PlacedCore → CoreValue → PlacedCore
with_core old core = record old { core = core }

-- process p is at this start
abbrev pub IsWhere : PlacedCore → ℕ → Start → Type 0
IsWhere old p start = (place : ProcessPlace) × (numbered old.places p ≡ Some (Some place)) × IsHere old.core.program place start
