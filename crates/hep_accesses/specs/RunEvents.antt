-- The steps of a run as events, and the races of a run: docs/MACHINE.md, "The order of steps".
use Rattle.std.specs.Prelude.{ℕ, suc, Bool, false, not, nat_lt, if◌then◌else◌, List, [], ◌∷◌, length, Option, Some, None}
use Rattle.hep_machine.specs.Words.{Level, Location, Process, State, Top, Units, living, opening, same_location, same_logical, step}
use Rattle.hep_accesses.specs.Events.{Event as AnEvent}
use Rattle.hep_accesses.specs.Pairs.{rows_by_pairs}
use Rattle.hep_accesses.specs.Races.{Row as ARow}
use Rattle.hep_accesses.specs.Accesses.{Site, accesses_on_top, need_on_top, same_site}

abbrev pub Event : Type 0
Event = AnEvent Location Site

abbrev pub Row : Type 0
Row = ARow Location Site

-- the process that a step makes, if it makes one: it has the next number
abbrev pub process_made : State → State → Option ℕ
process_made s t = if nat_lt (length s.processes) (length t.processes) then Some (suc (length s.processes)) else None

-- full in one of the two states and empty in the other
abbrev pub has_changed : State → State → Location → Bool
has_changed s t at = not (same_logical (s.store at).full (t.store at).full)

module _ (program : Units) where
  abbrev pub event_of_top : ℕ → State → State → Option (Level × Process) → Event
  event_of_top p s t None = record { process = p; makes = None; needs = None; changes = λ at. false; accesses = [] }
  event_of_top p s t (Some top) =
      let before : Top = record { state = s; process = p; level = top.0; below = top.1 } in
      record {
        process = p;
        makes = process_made s t;
        needs = need_on_top program before;
        changes = has_changed s t;
        accesses = accesses_on_top program before;
      }

  -- the step of process p from state s to state t
  abbrev pub event_of : ℕ → State → State → Event
  event_of p s t = event_of_top p s t (living s p)

  -- a turn without a step, of a process that waits or doesn't live, is no event
  abbrev pub with_event : ℕ → State → (State → List Event) → Option State → List Event
  with_event p s later None = later s
  with_event p s later (Some t) = event_of p s t ∷ later t

  unfoldable pub events_from : State → List ℕ → List Event
  events_from s [] = []
  events_from s (p ∷ ps) = with_event p s (λ t. events_from t ps) (step program p s)

  -- the steps of the turns of these processes, from the opening
  unfoldable pub events_of : List ℕ → List Event
  events_of processes = events_from (opening program) processes

  -- the races of a run, in a row for each two sites
  abbrev pub races_of : List ℕ → List Row
  races_of processes = rows_by_pairs same_location same_site (events_of processes)
