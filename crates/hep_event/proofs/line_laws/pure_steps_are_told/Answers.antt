use Rattle.hep_event.proofs.PureSteps.{pure-step}
use Rattle.hep_event.proofs.line_laws.pure_steps_are_told.Goals as goal

pub returns : goal.returns
returns c program s p top r variables e lives next is pure = pure-step program s p top r variables e lives next is pure
