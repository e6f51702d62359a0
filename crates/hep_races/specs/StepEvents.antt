-- The event of a step, as it is read from a machine before the step and after it: docs/MACHINE.md, "The order of steps".
use Rattle.std.specs.Prelude.{◌≡◌, ◌<◌, ℕ, suc, nat_lt, Bool, true, false, ◌&&◌, if◌then◌else◌, List, [], ◌∷◌, ◌++◌, length, map, Result}
use Rattle.std.specs.Prelude.{Option, Some, None}
use Rattle.std.specs.Prelude.{Ok, Err}
use Rattle.std.specs.List.{list_any}
use Rattle.std.specs.Option.{option_map, option_to_list}
use Rattle.hep_code.specs.declared.instruction.Evaluation.TheVariants.{Load, Test}
use Rattle.hep_code.specs.declared.instruction.Operation.{Operation}
use Rattle.hep_code.specs.declared.instruction.Operation.TheVariants.{Answer, EndLoop, EnterLoop, Evaluate, Store as Storing}
use Rattle.hep_code.specs.Words.{is_asynchronous}
use Rattle.hep_image.specs.Places.{variable_of as place_of_variable}
use Rattle.hep_machine.specs.declared.event.Kind.{Kind}
use Rattle.hep_machine.specs.Words.{Location, Name, Next, Reference, State, Store, Top, Units, StateFunction, SetEmpty, WaitFull}
use Rattle.hep_machine.specs.Words.{calling, creating, does, function_unit, location_of_name, names_of, referring, run, same_location}
use Rattle.hep_machine.specs.Words.{scope_of, unit_called, unit_on_top, wants}
use Rattle.hep_accesses.specs.Accesses.{Access, binding_accesses, need_on_top}
use Rattle.hep_accesses.specs.RunEvents.{event_of}
use Rattle.hep_accesses.specs.Exchanges.{next_on_top}
use Rattle.hep_event.specs.NamedVariables.{IsNamed}
use Rattle.hep_event.specs.Sites.{IsSiteAfter, IsSomeSite}
use Rattle.hep_event.specs.declared.sites.Site.{Site}
use Rattle.hep_state.specs.declared.core_state.CoreState.{CoreState}
use Rattle.hep_trace.specs.declared.reference.LiveProcess.{LiveProcess}
use Rattle.hep_views.specs.ListedProcesses.{place_of}
use Rattle.hep_views.specs.declared.place.Place.{Place}
use Rattle.hep_races.specs.StepChanges.{accesses_of_fault, accesses_unless_fault, changes_on_top}
use Rattle.hep_races.specs.StoragePlaces.{IsThere}
use Rattle.hep_races.specs.declared.step_access.NamedUnit.{NamedUnit}
use Rattle.hep_races.specs.declared.step_access.SitedAccess.{SitedAccess}
use Rattle.hep_races.specs.declared.step_event.ObservedStep.{ObservedStep}
use Rattle.hep_races.specs.declared.unit_names.UnitNames.{UnitNames}

-- ---- names

abbrev pub AreNamesOf : Units → UnitNames → Type 0
AreNamesOf program names = names.units ≡ map names_of program

-- ---- what an operation does

abbrev pub is_wait : StateFunction → Bool
is_wait WaitFull = true
is_wait _ = false

abbrev pub is_reset : StateFunction → Bool
is_reset SetEmpty = true
is_reset _ = false

abbrev pub plain_access_of : Operation → Option Bool
plain_access_of (Evaluate (Load x n)) = if is_asynchronous x then None else Some false
plain_access_of (Storing x n next) = if is_asynchronous x then None else Some true
plain_access_of (EnterLoop x cells inside behind) = Some true
plain_access_of (EndLoop x cells inside behind) = Some true
plain_access_of (Answer x) = Some false
plain_access_of _ = None

abbrev pub needs_state : Operation → Bool
needs_state (Evaluate (Load x n)) = is_asynchronous x
needs_state (Evaluate (Test f x n)) = is_wait f
needs_state (Storing x n next) = is_asynchronous x
needs_state _ = false

abbrev pub changes_state : Operation → Bool → Bool
changes_state (Evaluate (Load x n)) full = is_asynchronous x
changes_state (Evaluate (Test f x n)) full = is_reset f && full
changes_state (Storing x n next) full = is_asynchronous x
changes_state _ full = false

-- ---- by the storage unit that it names

abbrev pub place_found : Option Site → Option Place
place_found None = None
place_found (Some site) = Some site.place

abbrev pub place_named : Option NamedUnit → Option Place
place_named None = None
place_named (Some n) = place_found n.unit

abbrev pub access_found : Bool → Name → ℕ → ℕ → Option Site → Option SitedAccess
access_found stores x unit line None = None
access_found stores x unit line (Some site) =
    Some (record { at = site.place; stores = stores; site = record { unit = unit; line = line; name = x } })

abbrev pub access_named : Option Bool → Option NamedUnit → ℕ → ℕ → Option SitedAccess
access_named (Some stores) (Some n) unit line = access_found stores n.name unit line n.unit
access_named _ _ unit line = None

abbrev pub access_by : Operation → Option NamedUnit → ℕ → ℕ → Option SitedAccess
access_by o n unit line = access_named (plain_access_of o) n unit line

abbrev pub need_by : Operation → Option NamedUnit → Option Place
need_by o n = if needs_state o then place_named n else None

abbrev pub change_by : Operation → Option NamedUnit → Bool → Option Place
change_by o n full = if changes_state o full then place_named n else None

-- ---- what is named next of a process

-- its name, and the site of its location
pub record IsNamedUnit (cells : ℕ) (choices : List ℕ) (ahead : LiveProcess) (t : Top) (x : Reference) (n : NamedUnit) : Type 0 where
  pub name : n.name ≡ x.0
  pub site :
      IsSiteAfter ahead.image.now cells choices ahead.machine.now n.unit (
      location_of_name (scope_of ahead.image.now t.state t.level.activation) x.0 x.1)
  pub asynchronous : is_asynchronous (place_of_variable ahead.image.now (unit_on_top ahead.image.now t) x.0) ≡ x.0.asynchronous

abbrev pub IsNamedAhead : ℕ → List ℕ → LiveProcess → Top → Option NamedUnit → Type 0
IsNamedAhead cells choices ahead t n =
    (x : Reference) → IsNamed (unit_on_top ahead.image.now t) (next_on_top ahead.image.now t) x
    → (found : NamedUnit) × (n ≡ Some found) × IsNamedUnit cells choices ahead t x found

-- ---- states

abbrev pub full_at : Store → Result Location Kind → Bool
full_at store (Err k) = false
full_at store (Ok at) = (store at).full

-- the storage unit at the site is full or not, whichever it is
abbrev pub HasState : CoreState → Option Site → Bool → Type 0
HasState m site full =
    (program : Units) (cells : ℕ) (choices : List ℕ) (at : Result Location Kind) → IsSiteAfter program cells choices m site at
    → full ≡ full_at (run program choices).store at

abbrev pub IsSomeNamed : CoreState → Option NamedUnit → Type 0
IsSomeNamed m None = Unit {0}
IsSomeNamed m (Some n) = IsSomeSite m n.unit

abbrev pub HasNamedState : CoreState → Option NamedUnit → Bool → Type 0
HasNamedState m None full = Unit {0}
HasNamedState m (Some n) full = HasState m n.unit full

-- ---- a step before it

abbrev pub access_seen : Units → State → Access → SitedAccess
access_seen program s a =
    record {
      at = place_of program s a.at;
      stores = a.stores;
      site = record { unit = a.site.unit; line = a.site.line; name = a.site.name };
    }

-- what is accessed where the step is a fault
abbrev pub read_seen : SitedAccess → SitedAccess
read_seen a = record a { stores = false }

abbrev pub fault_access : Operation → Option SitedAccess → Option SitedAccess
fault_access (EnterLoop x cells inside behind) a = None
fault_access (EndLoop x cells inside behind) a = option_map read_seen a
fault_access o a = a

-- the process that is made, by the numbers of processes before and after
abbrev pub made_since : ℕ → ℕ → Option ℕ
made_since before after = if nat_lt before after then Some (suc before) else None

-- its storage unit is there, and it is made from a unit of the program
pub record IsAccessThere (program : Units) (s : State) (a : Access) : Type 0 where
  pub at : IsThere program s a.at
  pub unit : a.site.unit < length program

abbrev pub AreThere : Units → State → List Access → Type 0
AreThere program s [] = Unit {0}
AreThere program s (a ∷ rest) = IsAccessThere program s a × AreThere program s rest

abbrev pub AreUnitsThere : Units → State → List Location → Type 0
AreUnitsThere program s [] = Unit {0}
AreUnitsThere program s (at ∷ rest) = IsThere program s at × AreUnitsThere program s rest

-- ---- what is read of the names in bounds of adjustable dummy arrays

abbrev pub bounds_of_next : Units → Top → Next → List Access
bounds_of_next program t (wants (referring x actuals)) = binding_accesses program t (function_unit program x) actuals
bounds_of_next program t (does (calling x actuals)) = binding_accesses program t (unit_called program x) actuals
bounds_of_next program t (does (creating x actuals)) = binding_accesses program t (unit_called program x) actuals
bounds_of_next program t _ = []

-- the next step of a process on top reads just these
pub record AreBoundsRead (program : Units) (t : Top) (reads : List SitedAccess) : Type 0 where
  pub seen : reads ≡ map (access_seen program t.state) (bounds_of_next program t (next_on_top program t))
  pub there : AreThere program t.state (bounds_of_next program t (next_on_top program t))

-- ---- a step

-- a step as it is observed before it
pub record IsLookedAt (program : Units) (t : Top) (b : ObservedStep) : Type 0 where
  pub process : b.process ≡ t.process
  pub made : b.made ≡ length t.state.processes
  pub faults : b.faults ≡ length t.state.faults
  pub needs : b.needs ≡ option_map (place_of program t.state) (need_on_top program t)
  pub needs_there : (at : Location) → need_on_top program t ≡ Some at → IsThere program t.state at
  pub changes : b.changes.items ≡ map (place_of program t.state) (changes_on_top program t)
  pub changes_there : AreUnitsThere program t.state (changes_on_top program t)
  pub accesses :
      option_to_list b.access ++ b.bounds.items
      ≡ map (access_seen program t.state) (accesses_unless_fault program t (next_on_top program t))
  pub accesses_there : AreThere program t.state (accesses_unless_fault program t (next_on_top program t))
  pub fault_accesses :
      option_to_list b.fault_access ++ b.bounds.items
      ≡ map (access_seen program t.state) (accesses_of_fault (next_on_top program t)
      (accesses_unless_fault program t (next_on_top program t)))

-- it is the event of the step of this process on top, to state u
pub record IsObserved (program : Units) (t : Top) (u : State) (b : ObservedStep) : Type 0 where
  pub process : b.process ≡ (event_of program t.process t.state u).process
  pub makes : b.makes ≡ (event_of program t.process t.state u).makes
  pub needs : b.needs ≡ option_map (place_of program t.state) (event_of program t.process t.state u).needs
  pub needs_there : (at : Location) → (event_of program t.process t.state u).needs ≡ Some at → IsThere program t.state at
  pub changes :
      (units : List Location) × (b.changes.items ≡ map (place_of program t.state) units) × AreUnitsThere program t.state units
      × ((at : Location) → (event_of program t.process t.state u).changes at ≡ list_any (same_location at) units)
  pub accesses :
      option_to_list b.access ++ b.bounds.items ≡ map (access_seen program t.state) (event_of program t.process t.state u).accesses
  pub accesses_there : AreThere program t.state (event_of program t.process t.state u).accesses
