-- Waiting processes, for which the latest changes are looked for, while a history is made again:
-- docs/ARCHITECTURE.md, "Forms".
use Rattle.std.specs.Prelude.{◌≡◌, ◌≤◌, ℕ, zero, suc, Bool, true, ◌&&◌, not, nat_le, if◌then◌else◌, List, [], ◌++◌, length, map, Option, Some, None, IsSome, slice_get}
use Rattle.std.specs.Option.{option_map, option_to_list}
use Rattle.hep_replay.specs.CoreValues.{CoreValue, listed_after, state_of}
use Rattle.hep_replay.specs.Replays.{replayed}
use Rattle.hep_fold.specs.Observers.{Replay}
use Rattle.hep_fold.specs.Turns.{processes}
use Rattle.hep_layout.specs.Words.{address}
use Rattle.hep_machine.specs.declared.event.Entry.{Entry}
use Rattle.hep_machine.specs.Words.{Layout, Location, State, Units, Wanted, is_held, layout_of, opening_layout, run, same_logical, schedule_of, wanted_by}
use Rattle.hep_why.specs.LatestChanges.{change_by, is_there, latest_after, latest_changes, no_changes, owner_of, with_change}
use Rattle.hep_why.specs.Reasons.{reason_with}
use Rattle.hep_why.specs.declared.reason.Change.{Change}
use Rattle.hep_why.specs.declared.reason.LatestChanges.{LatestChanges}
use Rattle.hep_why.specs.declared.reason.Reason.{Reason}
use Rattle.hep_state.specs.declared.core_state.CoreState.{CoreState}
use Rattle.hep_state.specs.Words.{IsMachineAfter}
use Rattle.hep_views.specs.declared.listed.Listed.{Listed}
use Rattle.hep_why.specs.declared.watch.ChangeAhead.{ChangeAhead}
use Rattle.hep_why.specs.declared.watch.Watch.{Watch}

-- ---- who waits

-- the listed ones of n processes from this number on, after a history
abbrev pub listed_from : Units → List Entry → ℕ → ℕ → List Listed
listed_from program history p zero = []
listed_from program history p (suc n) = option_to_list (listed_after program history p) ++ listed_from program history (suc p) n

-- the storage unit that a process waits for after these turns
abbrev pub location_of : Units → List ℕ → ℕ → Option Location
location_of program turns p = option_map (λ (w : Wanted). w.at) (wanted_by program p (run program turns))

-- a storage unit is in a cell after these turns
abbrev pub IsKeptAfter : Units → ℕ → List ℕ → Location → ℕ → Type 0
IsKeptAfter program cells turns at cell =
    (layout : Layout) → layout_of program cells is_held turns ≡ Some layout → address program (run program turns) layout at ≡ Some cell

-- what the watch's process waits for after these turns is in the watch's cell
pub record IsWatch (program : Units) (cells : ℕ) (turns : List ℕ) (w : Watch) (at : Location) : Type 0 where
  pub located : location_of program turns w.listed.process ≡ Some at
  pub owner : owner_of at ≡ w.listed.owner
  pub kept : IsKeptAfter program cells turns at w.cell

-- one for which no change is known yet
abbrev pub IsNewWatch : Units → ℕ → List ℕ → Watch → Type 0
IsNewWatch program cells turns w = (w.latest ≡ no_changes) × ((at : Location) × IsWatch program cells turns w at)

abbrev pub AreNewWatches : Units → ℕ → List ℕ → List Watch → Type 0
AreNewWatches program cells turns ws = (i : ℕ) (w : Watch) → slice_get ws i ≡ Some w → IsNewWatch program cells turns w

-- that of process p, if it is listed after a core's history
abbrev pub IsWatchOf : CoreValue → ℕ → Option Watch → Type 0
IsWatchOf core p None = listed_after core.program core.history p ≡ None
IsWatchOf core p (Some w) =
    (listed_after core.program core.history p ≡ Some w.listed) × IsNewWatch core.program core.cells (schedule_of core.history) w

-- the same processes wait for the same things
abbrev pub WaitTheSame : List Watch → List Watch → Type 0
WaitTheSame old new =
    (i : ℕ) → option_map (λ (w : Watch). w.listed) (slice_get new i) ≡ option_map (λ (w : Watch). w.listed) (slice_get old i)

-- ---- looking at a cell

-- turns that a program has made, in an arena of this many cells
pub record TurnsMade : Type 0 where
  pub program : Units
  pub cells : ℕ
  pub made : List ℕ

abbrev pub state_at : TurnsMade → State
state_at t = run t.program t.made

-- a machine keeps the state after them
abbrev pub IsMachineOf : TurnsMade → CoreState → Type 0
IsMachineOf t m = IsMachineAfter t.program t.cells t.made m

-- after them a storage unit is in a cell
abbrev pub IsKeptIn : TurnsMade → Location → ℕ → Type 0
IsKeptIn t at cell = IsKeptAfter t.program t.cells t.made at cell

-- it is in the watch's cell, as soon as it exists
pub record IsKeptOnceThere (t : TurnsMade) (w : Watch) (at : Location) : Type 0 where
  pub owner : owner_of at ≡ w.listed.owner
  pub kept : is_there (state_at t) at ≡ true → IsKeptIn t at w.cell

abbrev pub AreKeptOnceThere : TurnsMade → List Watch → Type 0
AreKeptOnceThere t ws = (i : ℕ) (w : Watch) → slice_get ws i ≡ Some w → (at : Location) × IsKeptOnceThere t w at

-- a watch that notes whether its storage unit is full after a step, before which `made` activations had been made, and
-- which is this change
abbrev pub noted : Bool → ℕ → Option Change → Watch → Watch
noted full made change w =
    record w { full = full; latest = if nat_le w.listed.owner made && not (same_logical w.full full) then with_change change w.latest else w.latest }

-- it looks, if the storage unit exists
abbrev pub looked : State → Location → ℕ → Option Change → Watch → Watch
looked s at made change w = if is_there s at then noted (s.store at).full made change w else w

-- all of them have
pub record HaveLooked (t : TurnsMade) (made : ℕ) (change : Option Change) (old new : List Watch) : Type 0 where
  pub each : (i : ℕ) (w : Watch) (at : Location) → slice_get old i ≡ Some w → IsKeptOnceThere t w at
      → slice_get new i ≡ Some (looked (state_at t) at made change w)
  pub same : WaitTheSame old new

-- a machine keeps the state after some turns, when the storage units of all watches are in their cells
abbrev pub CanLook : CoreState → List Watch → Type 0
CanLook m ws = (t : TurnsMade) × IsMachineOf t m × AreKeptOnceThere t ws

-- after all such turns
abbrev pub Looks : CoreState → ℕ → Option Change → List Watch → List Watch → Type 0
Looks m made change old new = (t : TurnsMade) → IsMachineOf t m → AreKeptOnceThere t old → HaveLooked t made change old new

-- ---- a history made again

-- the first watches, and the latest changes of each storage unit
abbrev pub KnownChanges : Type 0
KnownChanges = List Watch × (Location → LatestChanges)

-- with the step of process p from a state, in the entry with this number
abbrev pub changes_after : Units → ℕ → ℕ → State → KnownChanges → KnownChanges
changes_after program entry p s known = (known.0, λ at. latest_after program at entry p s (known.1 at))

-- a watch, whose process waits for a storage unit after all turns that are made again, has noted after the first ones
-- whether that is full, and its latest changes
pub record IsAlong (t : TurnsMade) (turns : List ℕ) (changes : Location → LatestChanges) (w : Watch) (at : Location) : Type 0 where
  pub watch : IsWatch t.program t.cells turns w at
  pub full : is_there (state_at t) at ≡ true → w.full ≡ ((state_at t).store at).full
  pub latest : w.latest ≡ changes at

-- the same for each of these watches; their processes are those of the first watches
pub record AreAlong (t : TurnsMade) (turns : List ℕ) (ws : List Watch) (known : KnownChanges) : Type 0 where
  pub same : WaitTheSame known.0 ws
  pub each : (i : ℕ) (w : Watch) → slice_get ws i ≡ Some w → (at : Location) × IsAlong t turns known.1 w at

-- those of an observer of a replay, after these of its turns
abbrev pub AreAlongReplay : Units → Replay → List ℕ → List Watch → KnownChanges → Type 0
AreAlongReplay program replay made ws known =
    AreAlong (record { program = program; cells = replay.cells; made = made }) (processes replay.turns) ws known

-- what was noted before a turn: the number of activations, and the turn as a change
pub record IsChangeAhead (program : Units) (made : List ℕ) (entry p : ℕ) (next : ChangeAhead) : Type 0 where
  pub activations : next.activations ≡ length (run program made).activations
  pub change : change_by program entry p (run program made) ≡ Some next.change

-- ---- reasons

-- a core has made these entries, in an arena of a size that a run may have
pub record IsReplayed (core : CoreValue) (entries : List Entry) : Type 0 where
  pub made : core ≡ replayed core.program core.cells entries
  pub fits : IsSome (opening_layout core.program core.cells)
  pub some : 1 ≤ core.cells
  pub few : core.cells ≤ 16777216

-- each of these watches has the latest changes of what its process waits for after these entries
abbrev pub AreFound : CoreValue → List Entry → List Watch → Type 0
AreFound core entries ws =
    (i : ℕ) (w : Watch) → slice_get ws i ≡ Some w
    → (at : Location)
    × (location_of core.program (schedule_of core.history) w.listed.process ≡ Some at) × (w.latest ≡ latest_changes core.program entries at)

-- each of their processes waits after a core's history
abbrev pub AreWaiting : CoreValue → List Watch → Type 0
AreWaiting core ws = (i : ℕ) (w : Watch) → slice_get ws i ≡ Some w → IsSome (wanted_by core.program w.listed.process (state_of core))

abbrev pub reasons_for : Units → State → List Watch → List Reason
reasons_for program s ws = map (λ (w : Watch). reason_with program s w.listed w.latest) ws
