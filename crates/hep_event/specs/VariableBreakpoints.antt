-- The indexes of the code from which a step may access a variable of one name: docs/RUNS.md, "What each step did".
use Rattle.std.specs.Prelude.{◌≡◌, ℕ, ◌<◌, Bool, true, false, ◌||◌, List, ◌∷◌, drop, length, Option, Some, None, slice_get}
use Rattle.std.specs.Str.{bytes_eq}
use Rattle.hep_code.specs.declared.instruction.Evaluation.TheVariants.{Load, Test}
use Rattle.hep_code.specs.declared.instruction.Instruction.{Instruction}
use Rattle.hep_code.specs.declared.instruction.Instruction.TheVariants.{Push, Step}
use Rattle.hep_code.specs.declared.instruction.Operation.{Operation}
use Rattle.hep_code.specs.declared.instruction.Operation.TheVariants.{Evaluate, Store, EnterLoop, EndLoop, Purge}
use Rattle.hep_code.specs.declared.variable.Variable.{Variable}
use Rattle.hep_code.specs.declared.variable.Variable.TheVariants as variables
use Rattle.hep_image.specs.declared.array.Array.{Array}
use Rattle.hep_image.specs.declared.array.Start.{Start}
use Rattle.hep_image.specs.declared.array.Start.TheVariants.{Dummy}
use Rattle.hep_machine.specs.Words.{Name, Units, spelling, unit_at}
use Rattle.hep_advance.specs.declared.breakpoints.Breakpoints.{Breakpoints}
use Rattle.hep_event.specs.Sites.{IsVariableOf}
use Rattle.hep_event.specs.Variables.{AreVariablesOf}
use Rattle.hep_step.specs.Simulation.{unit_arrays, unit_code}
use Rattle.hep_event.specs.declared.variable_breakpoints.NameSearch.{NameSearch}

-- ---- dummy arguments, which may be associated with variables of other names

abbrev pub starts_as_dummy : Start → Bool
starts_as_dummy (Dummy c) = true
starts_as_dummy _ = false

abbrev pub is_passed : Option Array → Bool
is_passed None = true
is_passed (Some a) = starts_as_dummy a.start

abbrev pub is_dummy : List Array → Variable → Bool
is_dummy arrays (variables.Dummy b c) = true
is_dummy arrays (variables.Array b i) = is_passed (slice_get arrays i)
is_dummy arrays _ = false

-- ---- in the code of unit u, for a name that is sought

module _ (program : Units) (u : ℕ) (name : List ℕ) where
  -- a variable may be one of the name if that is its name in the unit, and so may each dummy argument
  abbrev pub may_go_by : Variable → Name → Bool
  may_go_by v x = is_dummy (unit_arrays program u) v || bytes_eq name (spelling x)

  -- whichever of the unit's names the variable has
  abbrev pub IsWatchedVariable : Variable → Bool → Type 0
  IsWatchedVariable v watched = (x : Name) → IsVariableOf program (unit_at program u) x v → watched ≡ may_go_by v x

  -- an operation accesses a variable that may; a PURGE may, whatever its targets are
  abbrev pub IsWatchedBy : Operation → Bool → Type 0
  IsWatchedBy (Evaluate (Load v n)) watched = IsWatchedVariable v watched
  IsWatchedBy (Evaluate (Test f v n)) watched = IsWatchedVariable v watched
  IsWatchedBy (Store v n next) watched = IsWatchedVariable v watched
  IsWatchedBy (EnterLoop v cells inside behind) watched = IsWatchedVariable v watched
  IsWatchedBy (EndLoop v cells inside behind) watched = IsWatchedVariable v watched
  IsWatchedBy (Purge count next) watched = watched ≡ true
  IsWatchedBy _ watched = watched ≡ false

  -- the next operation after the leading constants does, if there is one
  abbrev pub IsWatchedAhead : List Instruction → Bool → Type 0
  IsWatchedAhead (Push v ∷ is) watched = IsWatchedAhead is watched
  IsWatchedAhead (Step line o ∷ is) watched = IsWatchedBy o watched
  IsWatchedAhead _ watched = watched ≡ true

  -- each index of the code is watched just where the next operation does
  pub record IsWatchOf (w : Breakpoints) : Type 0 where
    pub count : length w.watched.items ≡ length (unit_code program u)
    pub each : (i : ℕ) (b : Bool) → slice_get w.watched.items i ≡ Some b → IsWatchedAhead (drop i (unit_code program u)) b

-- so in each unit of a program
pub record AreWatchesOf (program : Units) (name : List ℕ) (watches : List Breakpoints) : Type 0 where
  pub count : length watches ≡ length program
  pub each : (u : ℕ) (w : Breakpoints) → slice_get watches u ≡ Some w → IsWatchOf program u name w

-- ---- a search

-- the variables are those of the image, and the unit is one of it
pub record CanSeek (k : NameSearch) : Type 0 where
  pub variables : AreVariablesOf k.image.now k.variables.now
  pub inside : k.unit < length k.image.now
