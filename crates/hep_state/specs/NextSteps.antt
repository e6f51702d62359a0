-- A CALL, CREATE, reference, PURGE or RESUME that comes next: X3.9-1978, 15.5.2 and 15.6.2, and docs/MACHINE.md,
-- "Steps".
use Rattle.std.specs.Prelude.{◌≡◌, ℕ, List, ◌∷◌, drop, Result}
use Rattle.hep_machine.specs.Words.{Units}
use Rattle.hep_machine.specs.declared.event.Kind.{Kind}
use Rattle.hep_code.specs.declared.instruction.Instruction.{Instruction}
use Rattle.hep_code.specs.declared.instruction.Instruction.TheVariants.{Step}
use Rattle.hep_code.specs.declared.instruction.Operation.{Operation}
use Rattle.hep_code.specs.declared.instruction.Operation.TheVariants.{Call, Create, Refer, Purge, Resume, Return, Answer}
use Rattle.hep_code.specs.Words.{IsPastPushes, passed_from}
use Rattle.hep_image.specs.Addressing.{cells_in}
use Rattle.hep_step.specs.declared.dummy_storage.DummyStorage.{DummyStorage}
use Rattle.hep_step.specs.ArgumentPassing.{given_by}
use Rattle.hep_step.specs.declared.closed_range.ClosedRange.{ClosedRange}
use Rattle.hep_step.specs.PurgedRanges.{ranges_of}
use Rattle.hep_step.specs.NextCalls.{IsBehindEntries, last_operands, making}
use Rattle.hep_step.specs.Simulation.{IsNotLeftOut, unit_arrays, unit_code}
use Rattle.hep_state.specs.declared.core_state.CoreState.{CoreState}
use Rattle.hep_state.specs.declared.next_step.NextStep.{NextStep}
use Rattle.hep_state.specs.declared.next_step.NextStep.TheVariants as ahead
use Rattle.hep_state.specs.declared.next_step.NextFunctionReturn.{NextFunctionReturn}
use Rattle.hep_state.specs.declared.next_step.NextCall.{NextCall}
use Rattle.hep_state.specs.declared.next_step.NextPurge.{NextPurge}
use Rattle.hep_state.specs.OperandRoom.{IsMachineAfter}
use Rattle.hep_state.specs.Snapshots.{Snapshot}
use Rattle.hep_state.specs.TurnEffects.{HasLevels, HoldsInTurn, IsTurning, TurnOf, top_frame}

-- ---- at the head of instructions

-- the first instruction is no CALL, CREATE, reference, PURGE or RESUME
abbrev pub HasNone : List Instruction → Type 0
HasNone (Step line (Call u count next) ∷ behind) = ⊥
HasNone (Step line (Create u count next) ∷ behind) = ⊥
HasNone (Step line (Refer u count) ∷ behind) = ⊥
HasNone (Step line (Purge count next) ∷ behind) = ⊥
HasNone (Step line (Resume next) ∷ behind) = ⊥
HasNone _ = Unit {0}

-- the operation that it is
abbrev pub operation_of : NextCall → Operation
operation_of call = making call.way call.unit call.count call.next

-- the first instruction is this one, at an index
abbrev pub IsInFront : ℕ → List Instruction → NextStep → Type 0
IsInFront index instructions (ahead.Call call) =
    (behind : List Instruction) × (instructions ≡ Step call.line (operation_of call) ∷ behind) × IsBehindEntries call.way index call.count call.next
IsInFront index instructions (ahead.Purge purge) = (behind : List Instruction) × (instructions ≡ Step purge.line (Purge purge.count purge.next) ∷ behind)
IsInFront index instructions (ahead.Resume next) = (line : ℕ) × (behind : List Instruction) × (instructions ≡ Step line (Resume next) ∷ behind)
IsInFront index instructions ahead.Return = (line : ℕ) × (behind : List Instruction) × (instructions ≡ Step line Return ∷ behind)
IsInFront index instructions (ahead.Answer answer) = (behind : List Instruction) × (instructions ≡ Step answer.line (Answer answer.variable) ∷ behind)
IsInFront index instructions ahead.Other = HasNone instructions

-- ---- the next operation of a process

-- the top activation is at an operation, with the code after it
pub record IsAtStep (t : TurnOf) (line : ℕ) (operation : Operation) : Type 0 where
  pub turning : IsTurning t
  pub behind : List Instruction
  pub ahead : drop t.level.index (unit_code t.program t.level.unit) ≡ Step line operation ∷ behind

-- it is at a CALL, CREATE or reference, after which it goes on at an index
pub record IsAtCall (t : TurnOf) (call : NextCall) : Type 0 where
  pub step : IsAtStep t call.line (operation_of call)
  pub onward : IsBehindEntries call.way t.level.index call.count call.next

-- it is at a PURGE, or at RESUME
abbrev pub IsAtPurge : TurnOf → NextPurge → Type 0
IsAtPurge t purge = IsAtStep t purge.line (Purge purge.count purge.next)

abbrev pub IsAtResume : TurnOf → ℕ → Type 0
IsAtResume t next = (line : ℕ) × IsAtStep t line (Resume next)

-- the next operation of process p is this one
abbrev pub HasCallAhead : Units → ℕ → List ℕ → ℕ → Snapshot → NextCall → Type 0
HasCallAhead program cells choices p m call = HoldsInTurn program cells choices p m (λ t. IsAtCall t call)

abbrev pub HasPurgeAhead : Units → ℕ → List ℕ → ℕ → Snapshot → NextPurge → Type 0
HasPurgeAhead program cells choices p m purge = HoldsInTurn program cells choices p m (λ t. IsAtPurge t purge)

abbrev pub HasResumeAhead : Units → ℕ → List ℕ → ℕ → Snapshot → ℕ → Type 0
HasResumeAhead program cells choices p m next = HoldsInTurn program cells choices p m (λ t. IsAtResume t next)

-- the leading constants of process p are pushed, and its next operation is no CALL, CREATE, reference, PURGE or
-- RESUME
pub record IsWithoutCall (program : Units) (p : ℕ) (m : Snapshot) : Type 0 where
  pub levels : HasLevels m p
  pub past : IsPastPushes (unit_code program levels.level.unit) levels.level.index
  pub plain : IsNotLeftOut (unit_code program levels.level.unit) levels.level.index

-- and that is this operation
pub record IsAtOther (program : Units) (p : ℕ) (m : Snapshot) (line : ℕ) (o : Operation) : Type 0 where
  pub operation : IsWithoutCall program p m
  pub behind : List Instruction
  pub ahead : drop operation.levels.level.index (unit_code program operation.levels.level.unit) ≡ Step line o ∷ behind

-- RETURN, or the END of a subroutine
abbrev pub IsAtReturn : Units → ℕ → Snapshot → Type 0
IsAtReturn program p m = (line : ℕ) × IsAtOther program p m line Return

-- the END of a function
abbrev pub IsAtAnswer : Units → ℕ → Snapshot → NextFunctionReturn → Type 0
IsAtAnswer program p m answer = IsAtOther program p m answer.line (Answer answer.variable)

-- the next operation that was found, in a machine that kept a state, after the leading constants were pushed
abbrev pub IsAhead : Units → ℕ → CoreState → Snapshot → NextStep → Type 0
IsAhead program p old m (ahead.Call call) = (cells : ℕ) (choices : List ℕ) → IsMachineAfter program cells choices old → HasCallAhead program cells choices p m call
IsAhead program p old m (ahead.Purge purge) = (cells : ℕ) (choices : List ℕ) → IsMachineAfter program cells choices old → HasPurgeAhead program cells choices p m purge
IsAhead program p old m (ahead.Resume next) = (cells : ℕ) (choices : List ℕ) → IsMachineAfter program cells choices old → HasResumeAhead program cells choices p m next
IsAhead program p old m ahead.Return = IsAtReturn program p m
IsAhead program p old m (ahead.Answer answer) = IsAtAnswer program p m answer
IsAhead program p old m ahead.Other = IsWithoutCall program p m

-- ---- what is given

-- what the actual arguments give, by the cells of the arena, the last operands and the entries after the operation
abbrev pub given_of : {t : TurnOf} (call : NextCall) → IsAtCall t call → Result (List DummyStorage) Kind
given_of {t} call at = given_by (cells_in t.machine.arena.contents) (top_frame t).first (unit_arrays t.program t.level.unit) (passed_from call.count at.step.behind (last_operands call.count at.step.behind t.operands))

-- the cells that its targets name
abbrev pub ranges_ahead : {t : TurnOf} (purge : NextPurge) → IsAtPurge t purge → Result (List ClosedRange) Kind
ranges_ahead {t} purge at = ranges_of (cells_in t.machine.arena.contents) (top_frame t).first (unit_arrays t.program t.level.unit) (passed_from purge.count at.behind t.operands)
