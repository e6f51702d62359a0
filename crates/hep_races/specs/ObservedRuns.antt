-- The events of a run, as an observer of its turns knows them: docs/MACHINE.md, "The order of steps".
use Rattle.std.specs.Prelude.{◌≡◌, ℕ, suc, ◌+◌, Bool, true, false, if◌then◌else◌, nat_le, List, [], ◌∷◌, ◌++◌, length, None, Some, slice_get}
use Rattle.std.specs.List.{AllZip}
use Rattle.hep_accesses.specs.Accesses.{Site}
use Rattle.hep_accesses.specs.RunEvents.{Event, event_of}
use Rattle.hep_event.specs.Variables.{AreVariablesOf}
use Rattle.hep_fold.specs.Observers.{Replay}
use Rattle.hep_fold.specs.Turns.{processes}
use Rattle.hep_machine.specs.Words.{Level, Location, Process, State, Units, living, run, state_after_turn}
use Rattle.hep_accesses.specs.Events.{Event as AnEvent}
use Rattle.hep_trace.specs.References.{top_after}
use Rattle.hep_races.specs.NamesInBounds.{AreBoundsOf}
use Rattle.hep_races.specs.Detectors.{IsDetectorOf, NumberedEvents}
use Rattle.hep_races.specs.Renamings.{IsRenamedEvent, Renaming}
use Rattle.hep_races.specs.RunNames.{run_names, unit_of_place}
use Rattle.hep_races.specs.StepEvents.{AreNamesOf, IsLookedAt}
use Rattle.hep_races.specs.declared.event.Access.{Access}
use Rattle.hep_races.specs.declared.race_observer.RaceObserver.{RaceObserver}
use Rattle.hep_races.specs.declared.step_access.AccessSite.{AccessSite}
use Rattle.hep_races.specs.declared.step_access.SitedAccess.{SitedAccess}
use Rattle.hep_races.specs.declared.step_event.ObservedStep.{ObservedStep}
use Rattle.hep_races.specs.declared.storage_unit.StorageUnit.{StorageUnit}
use Rattle.hep_races.specs.WatchedCode.{AreWatchesFor}

-- ---- accesses with the numbers of their sites

-- the index of its site is its number
pub record IsNumbered (sites : List AccessSite) (a : SitedAccess) (n : Access) : Type 0 where
  pub at : n.at ≡ unit_of_place a.at
  pub stores : n.stores ≡ a.stores
  pub site : slice_get sites n.site ≡ Some a.site

abbrev pub AreNumbered : List AccessSite → List SitedAccess → List Access → Type 0
AreNumbered sites accesses numbered = AllZip (IsNumbered sites) accesses numbered

-- ---- events

abbrev pub Events : Type 0
Events = List Event

-- a step that needs, makes, changes and accesses nothing
pub record IsQuiet (e : Event) : Type 0 where
  pub needs : e.needs ≡ None
  pub makes : e.makes ≡ None
  pub changes : (at : Location) → e.changes at ≡ false
  pub accesses : e.accesses ≡ []

-- of the steps from this number on these are noted, each with its number and under other names, and the others are quiet
pub data AreNoted (r : Renaming Location StorageUnit Site ℕ) : ℕ → Events → NumberedEvents → Type 0 where
  none : (n : ℕ) → AreNoted r n [] []
  noted : (n : ℕ) (e : Event) (f : AnEvent StorageUnit ℕ) (es : Events) (fs : NumberedEvents) → IsRenamedEvent r e f
      → AreNoted r (suc n) es fs → AreNoted r n (e ∷ es) ((n, f) ∷ fs)
  quiet : (n : ℕ) (e : Event) (es : Events) (fs : NumberedEvents) → IsQuiet e → AreNoted r (suc n) es fs → AreNoted r n (e ∷ es) fs

-- the steps of a run: how many were made while there was one process, and the events of those after them
pub record RunSteps : Type 0 where
  pub alone : ℕ
  pub events : Events

-- there is one process
abbrev pub is_alone : State → Bool
is_alone s = nat_le (length s.processes) 1

-- with the step of process p from this state
abbrev pub with_step : Units → ℕ → State → RunSteps → RunSteps
with_step program p s x =
    if is_alone (state_after_turn program p s)
    then record x { alone = x.alone + 1 }
    else record x { events = x.events ++ event_of program p s (state_after_turn program p s) ∷ [] }

-- it has passed over the steps that were made while there was one process, and of those after them observed all that aren't quiet, under
-- the names that the whole run has
pub record AreObserved (program : Units) (replay : Replay) (made : List ℕ) (o : RaceObserver) (x : RunSteps) : Type 0 where
  pub variables : AreVariablesOf program o.variables
  pub names : AreNamesOf program o.names
  pub bounds : AreBoundsOf program o.bounds
  pub watches : AreWatchesFor program o.watches.items
  pub noted : NumberedEvents
  pub detected : IsDetectorOf (x.alone + length x.events) noted o.detector
  pub same : AreNoted (run_names program (run program (processes replay.turns)) o.sites) x.alone x.events noted
  pub counted : o.detector.steps ≡ length made
  pub first : is_alone (run program made) ≡ true → x.events ≡ []

-- a process is observed before its step
abbrev pub IsNoted : Units → List ℕ → ℕ → ObservedStep → Type 0
IsNoted program made p look =
    (top : Level × Process) → living (run program made) p ≡ Some top → IsLookedAt program (top_after program made p top) look
