use Rattle.hep_step.proofs.Operations.{lowest_goes_on, resume_ahead}
use Rattle.hep_step.proofs.laws.resumes_are_ahead.Goals as goal

pub returns : goal.returns
returns c = record {
  ahead = λ r line next behind running ahead. resume_ahead r line behind running next ahead;
  lowest = λ r line next behind running ahead. lowest_goes_on r line behind running next ahead;
}
