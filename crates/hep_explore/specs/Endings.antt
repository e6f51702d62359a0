-- How a program may end, over all choices: docs/MACHINE.md, "Endings".
use Rattle.std.specs.Prelude.{◌≡◌, ℕ, zero, suc, Bool, if◌then◌else◌, List, [], ◌∷◌, ◌++◌, map, Option, Some, None, option_and_then, IsSome}
use Rattle.hep_machine.specs.declared.event.Fault.{Fault}
use Rattle.hep_machine.specs.declared.record.Item.{Item}
use Rattle.hep_machine.specs.Words.{AreSteps, Location, State, Units, Wanted, common, is_held, layout_of, local, opening}
use Rattle.hep_machine.specs.Words.{run, step, unit_of}
use Rattle.hep_machine.specs.Views.{ProcessView, process_views_from}

-- ---- endings

-- some choices lead to the state
abbrev pub IsReachable : Units → State → Type 0
IsReachable program s = (choices : List ℕ) × (run program choices ≡ s)

-- no process has a step: a STOP was made, or each process that lives waits, or none lives
abbrev pub IsTerminal : Units → State → Type 0
IsTerminal program s = (p : ℕ) → step program p s ≡ None

-- the unit whose variable a location is, none where it is in COMMON
abbrev pub owner_of : State → Location → Option ℕ
owner_of s (local a x i) = Some (unit_of s a)
owner_of s (common b i) = None

-- a process that lives at the end: where it is, what it waits for, and the unit whose variable that is
pub record Blocked : Type 0 where
  pub view : ProcessView
  pub owner : Option ℕ

abbrev pub blocked_of : State → ProcessView → Blocked
blocked_of s v = record { view = v; owner = option_and_then (λ (w : Wanted). owner_of s w.at) v.wanted }

-- what a run leaves: the records, the faults, whether a STOP was made, and if not each process that lives
pub record Ending : Type 0 where
  pub records : List (List Item)
  pub faults : List Fault
  pub halted : Bool
  pub blocked : List Blocked

abbrev pub ending_of : Units → State → Ending
ending_of program s =
    record {
      records = s.records;
      faults = s.faults;
      halted = s.halted;
      blocked = if s.halted then [] else map (blocked_of s) (process_views_from program s 1 s.processes);
    }

-- the program may end so: a terminal state that is reachable does
abbrev pub IsEnding : Units → Ending → Type 0
IsEnding program e = (s : State) × IsReachable program s × IsTerminal program s × (e ≡ ending_of program s)

-- it may end so in an arena of so many cells: the steps of some choices do, and each of their frames has a gap when it is made
abbrev pub IsEndingWithin : Units → ℕ → Ending → Type 0
IsEndingWithin program cells e =
    (choices : List ℕ) × AreSteps program (opening program) choices × IsSome (layout_of program cells is_held choices)
    × IsTerminal program (run program choices) × (e ≡ ending_of program (run program choices))

-- ---- runs without an end

-- the first n choices
abbrev pub first_of : (ℕ → ℕ) → ℕ → List ℕ
first_of choices zero = []
first_of choices (suc n) = first_of choices n ++ choices n ∷ []

-- there are choices without an end, each of which makes a step
abbrev pub MayRunForEver : Units → Type 0
MayRunForEver program = (choices : ℕ → ℕ) × ((n : ℕ) → AreSteps program (opening program) (first_of choices n))
