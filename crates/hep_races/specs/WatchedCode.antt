-- The indexes of the code from which a step is observed: docs/MACHINE.md, "The order of steps".
use Rattle.std.specs.Prelude.{◌≡◌, ℕ, Bool, true, false, List, ◌∷◌, drop, length, slice_get, Some}
use Rattle.hep_advance.specs.declared.breakpoints.Breakpoints.{Breakpoints}
use Rattle.hep_code.specs.declared.instruction.Evaluation.TheVariants.{Load, Test}
use Rattle.hep_code.specs.declared.instruction.Instruction.{Instruction}
use Rattle.hep_code.specs.declared.instruction.Instruction.TheVariants.{Push, Step}
use Rattle.hep_code.specs.declared.instruction.Operation.{Operation}
use Rattle.hep_code.specs.declared.instruction.Operation.TheVariants.{BySign, Branch, Choose, Condition, Evaluate, Jump}
use Rattle.hep_machine.specs.Words.{Units}
use Rattle.hep_step.specs.Simulation.{unit_code}

-- an operation that may access, need or change a storage unit, or make a process, or end one; all but operators, functions of integers and
-- jumps
abbrev pub is_observed : Operation → Bool
is_observed (Evaluate (Load x n)) = true
is_observed (Evaluate (Test f x n)) = true
is_observed (Evaluate e) = false
is_observed (Jump next) = false
is_observed (Choose count next) = false
is_observed (BySign negative zero positive) = false
is_observed (Condition otherwise) = false
is_observed (Branch inside otherwise) = false
is_observed o = true

-- the next operation after the leading constants is one, or there is none
abbrev pub is_observed_ahead : List Instruction → Bool
is_observed_ahead (Push v ∷ is) = is_observed_ahead is
is_observed_ahead (Step line o ∷ is) = is_observed o
is_observed_ahead _ = true

-- each index of the code is watched just where the next operation is observed
pub record IsWatchFor (code : List Instruction) (w : Breakpoints) : Type 0 where
  pub count : length w.watched.items ≡ length code
  pub each : (i : ℕ) (b : Bool) → slice_get w.watched.items i ≡ Some b → b ≡ is_observed_ahead (drop i code)

-- so in each unit of a program
pub record AreWatchesFor (program : Units) (watches : List Breakpoints) : Type 0 where
  pub count : length watches ≡ length program
  pub each : (u : ℕ) (w : Breakpoints) → slice_get watches u ≡ Some w → IsWatchFor (unit_code program u) w
