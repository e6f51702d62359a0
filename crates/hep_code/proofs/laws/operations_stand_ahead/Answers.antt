use Rattle.hep_code.proofs.ControlFlow.{next_is_ahead, step_is_ahead}
use Rattle.hep_code.proofs.laws.operations_stand_ahead.Goals as goal

pub returns : goal.returns
returns c = record {
  step = λ addressed k work operands index stands past. step_is_ahead addressed k work operands index stands past;
  next = λ addressed k work operands index line o behind stands ahead. next_is_ahead addressed k work operands index stands line o behind ahead;
}
