-- Facts about an accepted program with a main program, and about the units that it calls, creates and refers to:
-- docs/MACHINE.md, "Steps".
use Rattle.std.specs.Prelude.{◌≡◌, ℕ, ◌<◌, ◌≤◌, List, ◌∷◌, length, Some, slice_get}
use Rattle.hep_machine.specs.Words.{Name, Units, dummies_of, function_name, unit_at, Actual, next_of, living, unit_of, run, Process, Work}
use Rattle.hep_machine.specs.State.{Level as SourceLevel}
use Rattle.hep_code.specs.declared.instruction.Instruction.{Instruction}
use Rattle.hep_code.specs.declared.instruction.Instruction.TheVariants.{Step}
use Rattle.hep_image.specs.BoundActivations.{AreClosed, IsBound}
use Rattle.hep_step.specs.declared.call_kind.CallKind.{CallKind}
use Rattle.hep_step.specs.NextCalls.{IsBehindEntries, IsCallAhead, comes_by, making, unit_by}
use Rattle.hep_step.specs.Simulation.{IsRunning, RunningTop, code_ahead}
use Rattle.hep_binding.specs.AcceptedLawsWorkOrigins.{ComesFrom}
use Rattle.hep_state.specs.Calls.{HasResultBy}
use Rattle.hep_state.specs.TurnEffects.{IsTopRunning, IsTurning, TurnOf}

-- facts about its units, about activations in its runs, and about the top activation of a process, at any operation
pub record AreRunning (program : Units) : Type 0 where
  pub closed : AreClosed program
  pub units : (choices : List ℕ) (a : ℕ) → 1 ≤ a → a ≤ length (run program choices).activations → slice_get program (unit_of (run program choices) a) ≡ Some (unit_at program (unit_of (run program choices) a))
  pub bound : (choices : List ℕ) (a : ℕ) → 1 ≤ a → a ≤ length (run program choices).activations → IsBound program (run program choices) a
  pub running : (t : TurnOf) → t.program ≡ program → (turning : IsTurning t) → IsTopRunning t turning

-- a unit of the program has this name, which is called, created or referred to, and as many dummy arguments as are
-- passed
pub record IsMadeOf (way : CallKind) (program : Units) (x : Name) (actuals : List Actual) : Type 0 where
  pub inside : unit_by way program x < length program
  pub as_many : length actuals ≡ length (dummies_of (unit_at program (unit_by way program x)))
  pub result : HasResultBy way (function_name (unit_at program (unit_by way program x)))

-- and facts about the units that it calls, creates and refers to
pub record IsKnown (program : Units) : Type 0 where
  pub running : AreRunning program
  pub works : (choices : List ℕ) (p : ℕ) (top : SourceLevel × Process) → living (run program choices) p ≡ Some top → ComesFrom (unit_at program (unit_of (run program choices) top.0.activation)) top.0.statement top.0.work
  pub made : (way : CallKind) (u k : ℕ) (work : Work) (x : Name) (actuals : List Actual) → ComesFrom (unit_at program u) k work → next_of (unit_at program u) work ≡ comes_by way x actuals → IsMadeOf way program x actuals
  pub ahead : (way : CallKind) (r : RunningTop) (line u count next : ℕ) (behind : List Instruction) → IsRunning r → code_ahead r ≡ Step line (making way u count next) ∷ behind → IsBehindEntries way r.index count next → IsCallAhead way r.program r.top r.operands u count next behind
