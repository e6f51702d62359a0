use Rattle.hep_state.proofs.UnchangedStates.{as-many}
use Rattle.hep_state.proofs.core_state.CoreState.settle.Goals as goal

pub returns-clause-made : goal.returns-clause-made
returns-clause-made c = as-many c.args.self.now c.step_ahead.new.self c.step_ahead.ensures.same
