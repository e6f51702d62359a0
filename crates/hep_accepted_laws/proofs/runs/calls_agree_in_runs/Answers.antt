use Rattle.hep_accepted_laws.proofs.RunCalls.{calls-agree}
use Rattle.hep_accepted_laws.proofs.runs.calls_agree_in_runs.Goals as goal

pub returns : goal.returns
returns c = calls-agree
