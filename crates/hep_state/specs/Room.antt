-- Room for what a turn may write: docs/ARCHITECTURE.md, "Forms".
use Rattle.std.specs.Prelude.{◌≡◌, ◌+◌, ◌^◌, ◌<◌, ◌≤◌, ℕ, [], OnOk, Result, length, vec_capacity, vec_len}
use Rattle.slab.specs.Slab.{HasRoomFor}
use Rattle.hep_machine.specs.Words.{Units}
use Rattle.hep_blocked.specs.Rosters.{KeepsRoll, RosterValue}
use Rattle.hep_history.specs.Entries.{EntriesLeft}
use Rattle.hep_state.specs.declared.core_state.CoreState.{CoreState}
use Rattle.hep_proc.specs.declared.process.Process.{Process}
use Rattle.hep_state.specs.OperandRoom.{HaveRoom, HoldsOfProcess}
use Rattle.hep_state.specs.Snapshots.{AreNumbered, snapshot_of}

-- the history is the same, with room for one more entry, or memory was refused
pub record HasRoomForEntry {A E : Type 0} (old : EntriesLeft) (result : Result A E) (new : EntriesLeft) : Type 0 where
  pub room : OnOk result (0 < new.room)
  pub few : OnOk result (length new.items < 2 ^ 63)
  pub entries : new.items ≡ old.items

-- the same processes are ready, and wait for the same; and the roster has room for each process of a machine
pub record KeepsRollFor (m : CoreState) (old new : RosterValue) : Type 0 where
  pub numbers : m.made ≤ new.room
  pub kept : KeepsRoll old new

-- the room is kept, whichever program runs in an arena of whatever size
abbrev pub KeepsRoom : CoreState → CoreState → Type 0
KeepsRoom old new = (program : Units) (cells : ℕ) → HaveRoom program cells old → HaveRoom program cells new

-- the machine shows the same snapshot, with the same room
pub record ShowsSame (old new : CoreState) : Type 0 where
  pub shown : snapshot_of new ≡ snapshot_of old
  pub made : new.made ≡ old.made
  pub passing : new.passing ≡ old.passing
  pub rooms : KeepsRoom old new

-- process p has room for one more level, for its operands, and for more pending ones; and a node has room
pub record HasRoomForLevel (m : CoreState) (p deep kept : ℕ) : Type 0 where
  pub node : HasRoomFor m.frames.nodes 1
  pub level : HoldsOfProcess m p (λ q. vec_len q.levels < vec_capacity q.levels)
  pub operands : HoldsOfProcess m p (λ q. deep ≤ vec_capacity q.operands)
  pub pending : HoldsOfProcess m p (λ q. vec_len q.pending + kept ≤ vec_capacity q.pending)

-- one more process can have a number
pub record CanBeMore (m : CoreState) : Type 0 where
  pub numbers : AreNumbered m
  pub few : m.made + 1 < 2 ^ 64

-- the process has room, and the roster has room for its number
pub record HasRoomForProcess (m : CoreState) (roster : RosterValue) : Type 0 where
  pub process : vec_len m.processes < vec_capacity m.processes
  pub numbers : m.made + 1 ≤ roster.room

-- and the node of its activation has room
pub record HasRoomForCreation (m : CoreState) (roster : RosterValue) : Type 0 where
  pub process : vec_len m.processes < vec_capacity m.processes
  pub numbers : m.made + 1 ≤ roster.room
  pub node : HasRoomFor m.frames.nodes 1

-- a process with this number and without activations, with room for just one level and for just `deep` operands
pub record IsEmptyProcess (number deep : ℕ) (q : Process) : Type 0 where
  pub number_is : q.number ≡ number
  pub empty : (q.levels.items ≡ []) × (q.operands.items ≡ []) × (q.pending.items ≡ [])
  pub level : (vec_len q.levels ≡ 0) × (vec_capacity q.levels ≡ 1)
  pub operands : vec_capacity q.operands ≡ deep

-- a process is a copy of another one, with as much room for operands at least
pub record IsProcessCopy (q copy : Process) : Type 0 where
  pub number : copy.number ≡ q.number
  pub same : (copy.levels.items ≡ q.levels.items) × (copy.operands.items ≡ q.operands.items) × (copy.pending.items ≡ q.pending.items)
  pub room : vec_capacity q.operands ≤ vec_capacity copy.operands
