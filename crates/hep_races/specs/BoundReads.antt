-- What CALL, CREATE and references read of the names in bounds of adjustable dummy arrays: X3.9-1978, 5.5.1 and 15.9.3.
use Rattle.std.specs.Prelude.{◌≡◌, ◌<◌, ℕ, List, [], length, Option, Some, None, Result, Ok, Err}
use Rattle.hep_accesses.specs.Accesses.{Access, bound_access, scope_on_top}
use Rattle.hep_accesses.specs.Exchanges.{next_on_top}
use Rattle.hep_code.specs.declared.instruction.Operation.{Operation}
use Rattle.hep_code.specs.declared.instruction.Operation.TheVariants.{Call, Create, Refer}
use Rattle.hep_machine.specs.declared.event.Kind.{Kind}
use Rattle.hep_machine.specs.Words.{Actual, Dummy, Layout, Level, Location, Name, Process, State, Statement, Top, Units, dummies_for}
use Rattle.hep_machine.specs.Words.{dummies_of, next_activation, run, storage_of, unit_at}
use Rattle.hep_step.specs.ArgumentAgreement.{AreGiven}
use Rattle.hep_step.specs.NextCalls.{comes_by, unit_by}
use Rattle.hep_step.specs.declared.call_kind.CallKind.{CallKind}
use Rattle.hep_step.specs.declared.dummy_storage.DummyStorage.{DummyStorage}
use Rattle.hep_step.specs.declared.dummy_storage.DummyStorage.TheVariants.{Units as Given}
use Rattle.hep_trace.specs.References.{IsAhead, top_after}
use Rattle.hep_trace.specs.declared.reference.LiveProcess.{LiveProcess}
use Rattle.hep_views.specs.ProcessPositions.{whereabouts_by}
use Rattle.hep_views.specs.declared.whereabouts.Whereabouts.{Whereabouts}
use Rattle.hep_races.specs.NamesInBounds.{source_of}
use Rattle.hep_races.specs.declared.bound_names.BoundName.{BoundName}

-- the unit that an operation calls, creates or refers to, and the number of its actual arguments
abbrev pub called_by : Operation → Option (ℕ × ℕ)
called_by (Call u n next) = Some (u, n)
called_by (Create u n next) = Some (u, n)
called_by (Refer u n) = Some (u, n)
called_by _ = None

-- the first cell that a dummy argument is given
abbrev pub first_cell : Option DummyStorage → Option ℕ
first_cell (Some (Given first count)) = Some first
first_cell _ = None

-- dummy arguments are given this, or one of the actual arguments is no element
abbrev pub AreGivenOr : Units → State → Layout → List Name → List Actual → Option (List DummyStorage) → Result (List Dummy) Kind → Type 0
AreGivenOr program s layout xs ys (Some gs) (Ok ds) = AreGiven program s layout (next_activation s) xs ys gs ds
AreGivenOr program s layout xs ys None (Err k) = Unit {0}
AreGivenOr program s layout xs ys _ _ = ⊥

-- what comes next of a process begins an activation of unit u, whose dummy arguments are given this
pub record IsGivenAhead (cells : ℕ) (choices : List ℕ) (ahead : LiveProcess) (top : Level × Process) (h : IsAhead cells choices ahead top)
    (u : ℕ) (given : Option (List DummyStorage)) : Type 0 where
  pub way : CallKind
  pub name : Name
  pub actuals : List Actual
  pub does_so : next_on_top ahead.image.now (top_after ahead.image.now choices ahead.process top) ≡ comes_by way name actuals
  pub unit : u ≡ unit_by way ahead.image.now name
  pub inside : u < length ahead.image.now
  pub bound :
      AreGivenOr ahead.image.now (run ahead.image.now choices) h.lives.after.after.layout (dummies_of (unit_at ahead.image.now u)) actuals
      given (dummies_for (scope_on_top ahead.image.now (top_after ahead.image.now choices ahead.process top))
      (next_activation (run ahead.image.now choices)) (dummies_of (unit_at ahead.image.now u)) actuals)

-- what is given, where the process is, and after which turns
pub record IsReading (ahead : LiveProcess) (here : Whereabouts) (u : ℕ) (given : List DummyStorage) : Type 0 where
  pub cells : ℕ
  pub choices : List ℕ
  pub top : Level × Process
  pub is_ahead : IsAhead cells choices ahead top
  pub given_is : IsGivenAhead cells choices ahead top is_ahead u (Some given)
  pub here_is : whereabouts_by ahead.image.now ahead.process (run ahead.image.now choices) ≡ Some here

abbrev pub dummies_in : Result (List Dummy) Kind → List Dummy
dummies_in (Ok ds) = ds
dummies_in (Err k) = []

module _ {ahead : LiveProcess} {here : Whereabouts} {u : ℕ} {given : List DummyStorage} (r : IsReading ahead here u given) where
  abbrev pub top_reading : Top
  top_reading = top_after ahead.image.now r.choices ahead.process r.top

  -- the new activation's dummy arguments
  abbrev pub dummies_bound : List Dummy
  dummies_bound =
      dummies_in (dummies_for (scope_on_top ahead.image.now top_reading) (next_activation top_reading.state)
      (dummies_of (unit_at ahead.image.now u)) r.given_is.actuals)

  -- the storage unit of a name
  abbrev pub start_bound : Name → Location
  start_bound x =
      (storage_of (record { unit = unit_at ahead.image.now u; number = next_activation top_reading.state; dummies = dummies_bound })
      x).start

  -- what is read of it
  abbrev pub read_bound : Name → List Access
  read_bound x = bound_access ahead.image.now top_reading x (start_bound x)

-- it is the source of its name's value
abbrev pub IsBoundOf : Units → List Statement → BoundName → Type 0
IsBoundOf program unit b = source_of program unit b.name ≡ Some b.source
