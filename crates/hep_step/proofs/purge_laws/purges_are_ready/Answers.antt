use Rattle.hep_step.specs.ArgumentAgreement.{caller_running}
use Rattle.hep_step.proofs.ReadyToPass.{caller-framed}
use Rattle.hep_step.proofs.Purges.{targets-out, targets-passable}
use Rattle.hep_step.proofs.purge_laws.purges_are_ready.Goals as goal

pub returns-clause-frame : goal.returns-clause-frame
returns-clause-frame c = λ r running calls few. caller-framed (caller_running r) calls running.memory few

pub returns-clause-passable : goal.returns-clause-passable
returns-clause-passable c = λ r line count next behind running calls placed ahead. targets-passable r line count next behind running ahead calls placed

pub returns-clause-out : goal.returns-clause-out
returns-clause-out c = λ r line count next behind running calls ahead. targets-out r line count next behind running ahead calls
