use Rattle.std.proofs.Common.{ap}
use Rattle.hep_accepted_laws.proofs.PartlyEvaluated.{call_in, comes-call}
use Rattle.hep_accepted_laws.proofs.runs.calls_come_from_statements.Goals as goal

pub returns : goal.returns
returns c = record {
  called = λ unit k work x actuals h e. comes-call unit k (x, actuals) work h (ap call_in e);
  created = λ unit k work x actuals h e. comes-call unit k (x, actuals) work h (ap call_in e);
}
