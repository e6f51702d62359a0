-- The places of an activation's variables: docs/MACHINE.md, "Variables and frames" and "Layout".
use Rattle.std.specs.Prelude.{◌≡◌, ◌≢◌, ℕ, false, List, Option, Some, None, Result, Ok, Err}
use Rattle.hep_code.specs.declared.variable.Variable.{Variable}
use Rattle.hep_code.specs.declared.variable.Variable.TheVariants.{Absent}
use Rattle.hep_code.specs.Words.{Addressing}
use Rattle.hep_image.specs.Places.{variable_of}
use Rattle.hep_layout.specs.Words.{address}
use Rattle.hep_machine.specs.declared.event.Kind.{Kind}
use Rattle.hep_machine.specs.Words.{Level, Location, Name, Process, State, Statement, Store, Units, Value, living, run}
use Rattle.hep_state.specs.declared.core_state.CoreState.{CoreState}
use Rattle.hep_state.specs.Words.{IsMachineAfter}
use Rattle.hep_views.specs.ListedProcesses.{place_of}
use Rattle.hep_event.specs.declared.sites.Site.{Site}

-- after these turns a machine keeps the state, and process p lives, with this level on top of others
pub record LivesAfter (program : Units) (cells : ℕ) (choices : List ℕ) (m : CoreState) (p : ℕ) (top : Level × Process) : Type 0 where
  pub after : IsMachineAfter program cells choices m
  pub running : m.halted ≡ false
  pub lives : living (run program choices) p ≡ Some top

-- a name of a unit is this variable, which has storage units
abbrev pub IsVariableOf : Units → List Statement → Name → Variable → Type 0
IsVariableOf program unit x v = (variable_of program unit x ≡ v) × (v ≢ Absent)

-- the site of a location, with its names in a state; or none where there is no location
abbrev pub IsSite : Units → State → Addressing → Option Site → Result Location Kind → Type 0
IsSite program s addressing (Some site) (Ok at) = (addressing at ≡ Some site.cell) × (site.place ≡ place_of program s at)
IsSite program s addressing None (Err k) = Unit {0}
IsSite program s addressing _ _ = ⊥

-- ---- values

-- what is stored at a location, if there is one
abbrev pub stored_at : Store → Result Location Kind → Option Value
stored_at store (Err k) = None
stored_at store (Ok at) = (store at).value

-- in a machine after these turns it is the site of a location
pub record IsSiteAfter (program : Units) (cells : ℕ) (choices : List ℕ) (m : CoreState) (site : Option Site) (at : Result Location Kind) : Type 0 where
  pub after : IsMachineAfter program cells choices m
  pub site_is : IsSite program (run program choices) (address program (run program choices) after.after.layout) site at

abbrev pub IsSomeSite : CoreState → Option Site → Type 0
IsSomeSite m site =
    (program : Units) × (cells : ℕ) × (choices : List ℕ) × (at : Result Location Kind) × IsSiteAfter program cells choices m site at

-- the storage unit at the site has this value, whichever it is
abbrev pub HasValue : CoreState → Option Site → Option Value → Type 0
HasValue m site v =
    (program : Units) (cells : ℕ) (choices : List ℕ) (at : Result Location Kind) → IsSiteAfter program cells choices m site at
    → v ≡ stored_at (run program choices).store at
