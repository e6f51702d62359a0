-- What stands ahead of a process, by what stands in front of its instructions.
use Rattle.std.proofs.Common.{◌≡◌, ℕ, Bool, false, List, ◌∷◌, drop, refl, sym, ap, ◌∙◌, subst}
use Rattle.hep_machine.specs.Words.{Units}
use Rattle.hep_machine.specs.State.{Level as SourceLevel, Process as SourceProcess}
use Rattle.hep_code.specs.declared.instruction.Instruction.{Instruction}
use Rattle.hep_code.specs.declared.instruction.Instruction.TheVariants.{Step}
use Rattle.hep_code.specs.declared.instruction.Operation.{Operation}
use Rattle.hep_code.specs.declared.instruction.Operation.TheVariants.{Call, Create, Refer, Purge, Resume, Return, Answer}
use Rattle.hep_code.specs.Words.{IsPastPushes}
use Rattle.hep_step.specs.Simulation.{IsNotLeftOut, is_left_out, unit_code}
use Rattle.hep_state.specs.declared.core_state.CoreState.{CoreState}
use Rattle.hep_state.specs.declared.next_step.NextStep.{NextStep}
use Rattle.hep_state.specs.declared.next_step.NextStep.TheVariants as ahead
use Rattle.hep_state.specs.Words.{HasLevels, HasNone, IsAhead, IsInFront, IsMachineAfter, IsTurning, Snapshot, turn_with}

-- where none of them stands
none-left-out : (code : List Instruction) (index : ℕ) → HasNone (drop index code) → IsNotLeftOut code index
none-left-out code index none line o behind ahead = by_operation o (subst HasNone ahead none) where
  by_operation : (o : Operation) → HasNone (Step line o ∷ behind) → is_left_out o ≡ false
  by_operation (Call u count next) h = absurd h
  by_operation (Create u count next) h = absurd h
  by_operation (Refer u count) h = absurd h
  by_operation (Purge count next) h = absurd h
  by_operation (Resume next) h = absurd h
  by_operation _ h = refl

-- where another operation stands
is-left-there : List Instruction → Bool
is-left-there (Step line o ∷ behind) = is_left_out o
is-left-there _ = false

other-left-out : (code : List Instruction) (index line : ℕ) (o : Operation) (behind : List Instruction) → is_left_out o ≡ false → drop index code ≡ Step line o ∷ behind → IsNotLeftOut code index
unfolding is-left-there
other-left-out code index line o behind other found rest p more ahead = sym (ap is-left-there (sym found ∙ ahead)) ∙ other

-- what stands in front of the instructions that are ahead, once the values in front of it are operands
pub found-ahead : (program : Units) (old : CoreState) {m : Snapshot} {p : ℕ} (levels : HasLevels m p)
    → ((cells : ℕ) (choices : List ℕ) → IsMachineAfter program cells choices old → (top : SourceLevel × SourceProcess) × IsTurning (turn_with program cells choices levels top))
    → IsPastPushes (unit_code program levels.level.unit) levels.level.index
    → (ahead : NextStep) → IsInFront levels.level.index (drop levels.level.index (unit_code program levels.level.unit)) ahead → IsAhead program p old m ahead
found-ahead program old levels turns past (ahead.Call call) found = λ cells choices after.
    let turn = turns cells choices after in
    record { levels = levels; top = turn.0; holds = record { step = record { turning = turn.1; behind = found.0; ahead = found.1 }; onward = found.2 } }
found-ahead program old levels turns past (ahead.Purge purge) found = λ cells choices after.
    let turn = turns cells choices after in
    record { levels = levels; top = turn.0; holds = record { turning = turn.1; behind = found.0; ahead = found.1 } }
found-ahead program old levels turns past (ahead.Resume next) found = λ cells choices after.
    let turn = turns cells choices after in
    record { levels = levels; top = turn.0; holds = (found.0, record { turning = turn.1; behind = found.1; ahead = found.2 }) }
found-ahead program old levels turns past ahead.Return found = (
  found.0,
  record {
    operation = record { levels = levels; past = past; plain = other-left-out (unit_code program levels.level.unit) levels.level.index found.0 Return found.1 refl found.2 };
    behind = found.1;
    ahead = found.2;
  },
)
found-ahead program old levels turns past (ahead.Answer answer) found =
    record {
      operation = record { levels = levels; past = past; plain = other-left-out (unit_code program levels.level.unit) levels.level.index answer.line (Answer answer.variable) found.0 refl found.1 };
      behind = found.0;
      ahead = found.1;
    }
found-ahead program old levels turns past ahead.Other none =
    record { levels = levels; past = past; plain = none-left-out (unit_code program levels.level.unit) levels.level.index none }
