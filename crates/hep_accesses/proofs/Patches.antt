-- What a step leaves in a state, as others see it: docs/MACHINE.md, "The order of steps".
use Rattle.std.specs.Prelude.{◌≡◌, ◌≢◌, ◌⊎◌, ℕ, ◌≤◌, Bool, true, false, ◌&&◌, ◌||◌, List, [], ◌∷◌, ◌++◌, length, Option, None}
use Rattle.std.specs.List.{AllByRecursion}
use Rattle.std.specs.Option.{unwrap_or}
use Rattle.hep_machine.specs.declared.event.Fault.{Fault}
use Rattle.hep_machine.specs.declared.record.Item.{Item}
use Rattle.hep_machine.specs.Words.{Cell, Location, Process, State, StepResult, Store, Top, absent, same_location, stepped, waiting}
use Rattle.hep_machine.specs.Words.{with_numbered}
use Rattle.hep_accesses.specs.Accesses.{Access}

-- the stack of its process, processes that it made, cells that it stored, a record and a fault
pub record Patch : Type 0 where
  pub process : ℕ
  pub stack : Process
  pub made : List Process
  pub cells : Location → Option Cell
  pub printed : List (List Item)
  pub failed : List Fault

-- the cells of the patch, and else those that were there
abbrev pub patched_store : Patch → Store → Store
patched_store patch store at = unwrap_or (patch.cells at) (store at)

-- a state with all this; the activations are the same
abbrev pub patched : Patch → State → State
patched patch s =
    record {
      processes = with_numbered s.processes patch.process patch.stack ++ patch.made;
      activations = s.activations;
      store = patched_store patch s.store;
      records = s.records ++ patch.printed;
      faults = s.faults ++ patch.failed;
      halted = s.halted;
    }

-- a result with all this
abbrev pub patched_result : Patch → StepResult → StepResult
patched_result patch (stepped s) = stepped (patched patch s)
patched_result patch (waiting w) = waiting w
patched_result patch absent = absent

-- the same process on top of a state with all this
abbrev pub over : Patch → Top → Top
over patch t = record { state = patched patch t.state; process = t.process; level = t.level; below = t.below }

-- the process and that of the patch are two of those that were made
pub record AreBeside (patch : Patch) (t : Top) : Type 0 where
  pub one : 1 ≤ t.process
  pub other : 1 ≤ patch.process
  pub different : t.process ≢ patch.process
  pub within : t.process ≤ length t.state.processes
  pub inside : patch.process ≤ length t.state.processes

-- it stores nothing there
pub record LeavesAlone (patch : Patch) (at : Location) : Type 0 where
  pub itself : patch.cells at ≡ None
  pub same : (l : Location) → same_location l at ≡ true → patch.cells l ≡ None

-- it stores nothing where these accesses are
abbrev pub LeavesEach : Patch → List Access → Type 0
LeavesEach patch xs = AllByRecursion (λ (a : Access). LeavesAlone patch a.at) xs

-- the result of a step, if it is one, has this
abbrev pub Keeps : (State → Type 0) → StepResult → Type 0
Keeps P (stepped s) = P s
Keeps P (waiting w) = Unit {0}
Keeps P absent = Unit {0}

-- not both print, fault or make a process
pub record AreApart (patch : Patch) (s : State) (r : StepResult) : Type 0 where
  pub faults : (patch.failed ≡ []) ⊎ Keeps (λ t. t.faults ≡ s.faults) r
  pub records : (patch.printed ≡ []) ⊎ Keeps (λ t. t.records ≡ s.records) r
  pub processes : (patch.made ≡ []) ⊎ Keeps (λ t. length t.processes ≡ length s.processes) r

-- one of these accesses stores there
abbrev pub is_stored : List Access → Location → Bool
is_stored [] l = false
is_stored (a ∷ more) l = (a.stores && same_location l a.at) || is_stored more l

-- where none of these accesses stores a store is as another one
abbrev pub IsSameBut : List Access → Store → Store → Type 0
IsSameBut xs old new = (l : Location) → is_stored xs l ≡ false → new l ≡ old l
