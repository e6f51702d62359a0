use Rattle.hep_binding.proofs.BegunActivations.{begins, binding, stored}
use Rattle.hep_binding.proofs.laws.dummies_are_bound.Goals as goal

pub returns : goal.returns
returns c = record {
  begun = begins;
  stored = λ call t layout given h passed more. stored call t more h layout given passed;
  binding = λ call t layout first cells given h passed more. binding call t more h layout given passed first cells;
}
