use Rattle.hep_explore.proofs.Pure.{pure_are_independent}
use Rattle.hep_explore.proofs.laws.pure_steps_are_independent.Goals as goal

pub returns : goal.returns
returns c = pure_are_independent
