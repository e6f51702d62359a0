use Rattle.hep_state.proofs.TopActivations.{absent-ended, absent-halted, absent-none, turning}
use Rattle.hep_state.proofs.laws.turns_are_taken.Goals as goal

pub returns-clause-turning : goal.returns-clause-turning
returns-clause-turning c program cells choices m p levels after running = turning p after levels running

pub returns-clause-halted : goal.returns-clause-halted
returns-clause-halted c program cells choices m p after halted = absent-halted p after halted

pub returns-clause-ended : goal.returns-clause-ended
returns-clause-ended c program cells choices m p operands pending after kept = absent-ended p after operands pending kept

pub returns-clause-none : goal.returns-clause-none
returns-clause-none c program cells choices m p after none = absent-none p after none
