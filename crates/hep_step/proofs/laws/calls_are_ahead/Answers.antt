use Rattle.hep_step.proofs.Operations.{call_ahead, call_fails, passed_last}
use Rattle.hep_step.proofs.laws.calls_are_ahead.Goals as goal

pub returns : goal.returns
returns c = record {
  ahead = λ way r line u count next behind running ahead onward. call_ahead r line behind running way u count next ahead onward;
  fails = λ way r line u count next behind running ahead. call_fails r line behind running way u count next ahead;
  last = λ way program t operands u count next behind calls. passed_last calls;
}
