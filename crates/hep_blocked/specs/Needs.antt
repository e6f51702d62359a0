-- Which storage unit the next step of a process needs full or empty, whatever is stored there, and which one it may fill or empty:
-- docs/MACHINE.md, "Steps".
use Rattle.std.specs.Prelude.{ℕ, Bool, true, false, not, if◌then◌else◌, Option, Some, None, Result, Ok, Err}
use Rattle.hep_machine.specs.Words.{StateFunction, IsFull, IsEmpty, ValueOf, SetEmpty, WaitFull, Units, unit_at, Next, assigning, does, next_of, testing, wants, evaluating, Scope, location_of_name, living, unit_of, Level, Location, Process, State, Store, Wanted, scope_of}
use Rattle.hep_machine.specs.declared.event.Kind.{Kind}
use Rattle.hep_machine.specs.Evaluation.{reading}

-- ---- of asynchronous names alone

abbrev pub if_so : {A : Type 0} → Bool → Option A → Option A
if_so true x = x
if_so false x = None

-- a bad subscript names no storage unit
abbrev pub named_location : Result Location Kind → Option Location
named_location (Err k) = None
named_location (Ok at) = Some at

abbrev pub wanted_at : Bool → Option Location → Option Wanted
wanted_at full None = None
wanted_at full (Some at) = Some (record { at = at; full = full })

-- ---- what is needed

abbrev pub need_of_test : StateFunction → Option Location → Option Wanted
need_of_test IsFull at = None
need_of_test IsEmpty at = None
need_of_test ValueOf at = None
need_of_test SetEmpty at = None
need_of_test WaitFull at = wanted_at true at

abbrev pub need_of_next : Scope → Next → Option Wanted
need_of_next scope (wants (evaluating (reading r))) = if_so r.0.asynchronous (wanted_at true (named_location (location_of_name scope r.0 r.1)))
need_of_next scope (wants (evaluating (testing f r))) = need_of_test f (named_location (location_of_name scope r.0 r.1))
need_of_next scope (does (assigning r v)) = if_so r.0.asynchronous (wanted_at false (named_location (location_of_name scope r.0 r.1)))
need_of_next scope _ = None

-- ---- what may be filled or emptied

abbrev pub touched_by_test : StateFunction → Option Location → Option Location
touched_by_test IsFull at = None
touched_by_test IsEmpty at = None
touched_by_test ValueOf at = None
touched_by_test SetEmpty at = at
touched_by_test WaitFull at = None

abbrev pub touched_by_next : Scope → Next → Option Location
touched_by_next scope (wants (evaluating (reading r))) = if_so r.0.asynchronous (named_location (location_of_name scope r.0 r.1))
touched_by_next scope (wants (evaluating (testing f r))) = touched_by_test f (named_location (location_of_name scope r.0 r.1))
touched_by_next scope (does (assigning r v)) = if_so r.0.asynchronous (named_location (location_of_name scope r.0 r.1))
touched_by_next scope _ = None

-- ---- the next step of a process

-- of the top activation of a process, if it lives
abbrev pub on_top : {A : Type 0} → (Scope → Next → Option A) → Units → State → Option (Level × Process) → Option A
on_top f program s None = None
on_top f program s (Some top) = f (scope_of program s top.0.activation) (next_of (unit_at program (unit_of s top.0.activation)) top.0.work)

-- the storage unit that the next step of process p needs, and how
abbrev pub need_of : Units → ℕ → State → Option Wanted
need_of program p s = on_top need_of_next program s (living s p)

-- the one that it may fill or empty, a PURGE apart
abbrev pub touched_by : Units → ℕ → State → Option Location
touched_by program p s = on_top touched_by_next program s (living s p)

-- ---- waiting

-- the storage unit is as it is needed
abbrev pub is_met : Wanted → Store → Bool
is_met w store = if w.full then (store w.at).full else not (store w.at).full

-- what is needed, unless the storage unit is so
abbrev pub unmet : Option Wanted → Store → Option Wanted
unmet None store = None
unmet (Some w) store = if is_met w store then None else Some w
