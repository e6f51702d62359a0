use Rattle.hep_conditions.specs.Words.{violations}
use Rattle.hep_conditions.proofs.First.{none_reported}
use Rattle.hep_check.proofs.Rejected.{told-kept, told-violation}
use Rattle.hep_check.proofs.refusal_laws.rejected_are_violations.Goals as goal

pub returns : goal.returns
returns c = record {
  told = λ program first v e h. told-violation program first v e h;
  kept = λ program first v h. told-kept program first v h;
  some = λ program e. none_reported (violations program) e;
}
