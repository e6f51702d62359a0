use Rattle.hep_step.proofs.References.{reference-passed}
use Rattle.hep_step.proofs.passing_laws.actuals_are_passed.Goals as goal

pub returns : goal.returns
returns c = λ caller b x y vs calls. reference-passed caller calls x vs b y
