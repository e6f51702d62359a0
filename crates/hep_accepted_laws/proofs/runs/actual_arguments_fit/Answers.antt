use Rattle.hep_accepted_laws.proofs.Actuals.{actuals-fit, referred-fit}
use Rattle.hep_accepted_laws.proofs.runs.actual_arguments_fit.Goals as goal

pub returns : goal.returns
returns c = record { called = actuals-fit c.constants_agree.ensures; referred = referred-fit c.constants_agree.ensures }
