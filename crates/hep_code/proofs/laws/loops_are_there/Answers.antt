use Rattle.hep_code.proofs.ControlFlow.{entered_is_do, ended_is_do}
use Rattle.hep_code.proofs.laws.loops_are_there.Goals as goal

pub returns : goal.returns
returns c = record {
  entered = λ unit k work x m n i fits is. entered_is_do unit k work x m n i fits is;
  ended = λ unit k work d fits is. ended_is_do unit k work d fits is;
}
