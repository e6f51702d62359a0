-- The next operation of a process, found in the code of its unit: docs/MACHINE.md, "Evaluation".
use Rattle.std.specs.Prelude.{◌≡◌, ℕ, List, ◌∷◌, drop}
use Rattle.hep_code.specs.declared.instruction.Instruction.{Instruction}
use Rattle.hep_code.specs.declared.instruction.Instruction.TheVariants.{Step}
use Rattle.hep_code.specs.declared.instruction.Operation.{Operation}
use Rattle.hep_code.specs.Words.{AddressedUnit, code_of, left_to_do}
use Rattle.hep_machine.specs.Words.{Units, Value}
use Rattle.hep_state.specs.declared.core_state.CoreState.{CoreState}
use Rattle.hep_state.specs.Words.{HasLevels, snapshot_of}
use Rattle.hep_step.specs.Simulation.{unit_addressed}
use Rattle.hep_event.specs.declared.next_operation.NextOperation.{NextOperation}

-- the first instruction is an operation
abbrev pub HasStep : List Instruction → Type 0
HasStep ahead = (line : ℕ) × (o : Operation) × (behind : List Instruction) × (ahead ≡ Step line o ∷ behind)

-- the next operation in a unit's code, after the leading constants are pushed, for an activation at an index
pub record IsNextOperation (addressed : AddressedUnit) (operands : List Value) (at : ℕ) (c : NextOperation) : Type 0 where
  pub index : ℕ
  pub same : left_to_do c.operands.items index (code_of addressed) ≡ left_to_do operands at (code_of addressed)
  pub ahead : drop index (code_of addressed) ≡ Step c.line c.operation ∷ c.behind.now

-- of the top activation of process p
abbrev pub IsNextOperationOf : Units → CoreState → ℕ → NextOperation → Type 0
IsNextOperationOf program m p c =
    (levels : HasLevels (snapshot_of m) p) → IsNextOperation (unit_addressed program levels.level.unit) levels.operands levels.level.index c
