-- A core as its callers see it, and the result of a choice: docs/MACHINE.md, "Histories" and "Which process comes
-- next".
use Rattle.std.specs.Prelude.{◌≡◌, ◌≢◌, ◌⊎◌, ℕ, zero, suc, ◌-◌, ◌<◌, ◌≤◌, Bool, true, false, not, if◌then◌else◌, List, [], ◌∷◌, ◌++◌, Option, Some, None, IsSome, Result, Ok, Err, length, option_map, slice_get}
use Rattle.std.specs.List.{filter}
use Rattle.std.specs.Option.{option_or}
use Rattle.hep_machine.specs.declared.event.Entry.{Entry}
use Rattle.hep_machine.specs.Words.{Units, CellView, State, step, is_waiting, schedule_of, state_after, is_held, last_process, opening_layout, living_from, next_of_ready, progress_after, ready_in, View, view_of, is_number_among, living}
use Rattle.hep_machine.specs.declared.slot.Slot.{Slot}
use Rattle.hep_state.specs.Words.{HasNoGap}
use Rattle.hep_views.specs.declared.listed.Listed.{Listed}
use Rattle.hep_views.specs.ListedProcesses.{listed_by}
use Rattle.hep_core.specs.declared.stop.ChoiceStop.{ChoiceStop}
use Rattle.hep_core.specs.declared.stop.ChoiceStop.TheVariants.{Halted, ArenaFull, StepLimit}
use Rattle.hep_core.specs.declared.stop.Turn.{Turn}
use Rattle.hep_core.specs.declared.stop.Verdict.{Verdict}
use Rattle.hep_core.specs.declared.stop.Verdict.TheVariants.{Stopped, Done, Waiting, Running}
use Rattle.hep_core.specs.declared.core_fault.ChooseFault.{ChooseFault}
use Rattle.hep_core.specs.declared.core_fault.ChooseFault.TheVariants as refused
use Rattle.hep_core.specs.declared.core_fault.NewFault.{NewFault}
use Rattle.hep_core.specs.declared.core_fault.NewFault.TheVariants as unmade
use Rattle.hep_commit.specs.TicketId.{TicketId}
use Rattle.hep_core.specs.Tickets.{is_out}

-- the program, the cells of the arena, the longest history, the history, the stop, the view of the state, the tickets
-- that are out, and the number of tickets given
pub record CoreValue : Type 0 where
  pub program : Units
  pub cells : ℕ
  pub limit : ℕ
  pub history : List Entry
  pub stop : Option ChoiceStop
  pub view : View
  pub out : List TicketId
  pub given : ℕ

-- the source machine's state after the history
abbrev pub state_of : CoreValue → State
state_of core = state_after core.program core.history

-- a core that has made no step, and has given no ticket
abbrev pub opening_of : Units → ℕ → ℕ → CoreValue
opening_of program cells limit =
    record {
      program = program;
      cells = cells;
      limit = limit;
      history = [];
      stop = None;
      view = view_of program is_held (state_after program []);
      out = [];
      given = 0;
    }

-- there is no core where the main program's frame has no gap in the arena; memory is asked for only where it has
abbrev pub IsNewFault : NewFault → Units → ℕ → Type 0
IsNewFault unmade.NoMemory program cells = IsSome (opening_layout program cells)
IsNewFault unmade.ArenaFull program cells = opening_layout program cells ≡ None

-- ---- choices

abbrev pub stop_after : State → Option ChoiceStop
stop_after s = if s.halted then Some Halted else None

-- the core with one more entry, in the state s
abbrev pub core_after_choice : CoreValue → ℕ → ℕ → State → CoreValue
core_after_choice old p n s =
    record old { history = old.history ++ record { process = p; steps = n } ∷ []; stop = stop_after s; view = view_of old.program is_held s }

-- p made a step, or was found waiting
abbrev pub IsTurn : CoreValue → ℕ → ℕ → Bool → CoreValue → Type 0
IsTurn old p (suc zero) false new = (s : State) × (step old.program p (state_of old) ≡ Some s) × (new ≡ core_after_choice old p 1 s)
IsTurn old p zero true new =
    (is_waiting old.program (state_of old) p ≡ true) × (new ≡ core_after_choice old p 0 (state_of old))
IsTurn old p _ _ new = ⊥

-- the core has no stop
abbrev pub HasNoStop : CoreValue → Type 0
HasNoStop core = (core.stop ≡ None) × ((state_of core).halted ≡ false)

-- the core has no stop, and p lives and isn't out
abbrev pub IsFree : CoreValue → ℕ → Type 0
IsFree core p = HasNoStop core × (living (state_of core) p ≢ None) × (is_out p core.out ≡ false)

-- the result of a choice of p; the first reason that holds is reported: a stop, p doesn't live, p is out, the history
-- is full, the frame of a new activation has no gap, memory was refused
abbrev pub IsChoice : CoreValue → ℕ → Result Turn ChooseFault → CoreValue → Type 0
IsChoice old p (Ok turn) new =
    HasNoStop old × (is_out p old.out ≡ false) × (length old.history < old.limit) × IsTurn old p turn.steps turn.blocked new
IsChoice old p (Err (refused.Stopped stop)) new =
    ((old.stop ≡ Some stop) × (new ≡ old))
    ⊎ (IsFree old p × (length old.history ≡ old.limit) × (stop ≡ StepLimit) × (new ≡ record old { stop = Some StepLimit }))
    ⊎ (IsFree old p × (length old.history < old.limit) × HasNoGap old.program old.cells (schedule_of old.history) p
    × (stop ≡ ArenaFull) × (new ≡ record old { stop = Some ArenaFull }))
IsChoice old p (Err refused.NoSuchProcess) new = HasNoStop old × (living (state_of old) p ≡ None) × (new ≡ old)
IsChoice old p (Err refused.IsOut) new = HasNoStop old × (is_out p old.out ≡ true) × (new ≡ old)
IsChoice old p (Err refused.NoTicket) new = ⊥
IsChoice old p (Err refused.NoMemory) new =
    IsFree old p × (length old.history < old.limit) × (HasNoGap old.program old.cells (schedule_of old.history) p → ⊥) × (new ≡ old)

-- ---- stops

-- a stop is what its name says: the core is Halted just where the machine is, and the arena is full where the step of
-- some process makes an activation for whose frame there is no gap
abbrev pub IsStop : Units → ℕ → ℕ → List Entry → Option ChoiceStop → Type 0
IsStop program cells limit history None = (state_after program history).halted ≡ false
IsStop program cells limit history (Some Halted) = (state_after program history).halted ≡ true
IsStop program cells limit history (Some StepLimit) = ((state_after program history).halted ≡ false) × (length history ≡ limit)
IsStop program cells limit history (Some ArenaFull) =
    ((state_after program history).halted ≡ false) × ((p : ℕ) × HasNoGap program cells (schedule_of history) p)

-- no process lives, or all that live are listed as waiting, or one is ready
abbrev pub verdict_by : Option ChoiceStop → List ℕ → List ℕ → Verdict
verdict_by (Some stop) alive ready = Stopped stop
verdict_by None [] ready = Done
verdict_by None (p ∷ ps) [] = Waiting
verdict_by None (p ∷ ps) (q ∷ qs) = Running

abbrev pub verdict_of : CoreValue → Verdict
verdict_of core =
    verdict_by core.stop (living_from 1 (state_of core).processes) (ready_in (progress_after core.program core.history))

-- ---- every core

-- no process has a step
abbrev pub IsIdle : Units → State → Type 0
IsIdle program s = (p : ℕ) → step program p s ≡ None

-- ---- the process that comes next by itself

-- the living processes that aren't listed, by rising numbers
abbrev pub ready_of : CoreValue → List ℕ
ready_of core = ready_in (progress_after core.program core.history)

-- those of them that aren't out
abbrev pub free_of : CoreValue → List ℕ
free_of core = filter (λ p. not (is_out p core.out)) (ready_of core)

abbrev pub next_ready_of : CoreValue → Option ℕ
next_ready_of core = next_of_ready (last_process core.history) (free_of core)

-- ---- COMMON

-- the cell at a position of COMMON's view
abbrev pub common_cell : CoreValue → ℕ → Option Slot
common_cell core at = option_map (λ (v : CellView). v.cell) (slice_get core.view.common_contents at)

-- ---- processes that wait

-- process p after a history, where it is listed
abbrev pub listed_after : Units → List Entry → ℕ → Option Listed
listed_after program history p =
    if is_number_among p (progress_after program history).listed then listed_by program p (state_after program history) else None

-- the first listed one of n processes, from this number on
abbrev pub first_listed : Units → List Entry → ℕ → ℕ → Option Listed
first_listed program history p zero = None
first_listed program history p (suc n) = option_or (listed_after program history p) (first_listed program history (suc p) n)

-- the first listed one of the processes that were made and have numbers above p
abbrev pub next_listed_of : CoreValue → ℕ → Option Listed
next_listed_of core p = first_listed core.program core.history (suc p) (length (state_of core).processes - p)
