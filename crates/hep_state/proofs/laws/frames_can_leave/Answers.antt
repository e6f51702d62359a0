use Rattle.std.proofs.Common.{refl}
use Rattle.hep_state.specs.Words.{state_answered, state_failed, state_returned}
use Rattle.hep_state.proofs.SilentTurns.{answered-ended, can-all-leave, can-leave, failed-ended, kept-now, lead-upwards, returned-ended, top-node}
use Rattle.hep_state.proofs.laws.frames_can_leave.Goals as goal

pub returns-clause-kept : goal.returns-clause-kept
returns-clause-kept c t turning = kept-now turning

pub returns-clause-there : goal.returns-clause-there
returns-clause-there c t turning = top-node turning

pub returns-clause-returned : goal.returns-clause-returned
returns-clause-returned c t turning = (returned-ended turning, lead-upwards t.program t.choices (state_returned t) refl)

pub returns-clause-answered : goal.returns-clause-answered
returns-clause-answered c t v turning = (answered-ended turning v, lead-upwards t.program t.choices (state_answered t v) refl)

pub returns-clause-all : goal.returns-clause-all
returns-clause-all c t turning = (can-all-leave turning, can-leave turning)

pub returns-clause-failed : goal.returns-clause-failed
returns-clause-failed c t kind turning = (failed-ended turning kind, lead-upwards t.program t.choices (state_failed t kind) refl)
