use Rattle.hep_state.proofs.ReturnTurns.{IsRunningAlways, answer-untouched, running-always}
use Rattle.hep_state.proofs.UnchangedStates.{rooms-of, turned-so}
use Rattle.hep_state.proofs.core_state.CoreState.take_answer.Goals.{After-tops_are_running}
use Rattle.hep_state.proofs.core_state.CoreState.take_answer.Goals as goal

known : (c : After-tops_are_running) → IsRunningAlways c.args.image.now
known c = running-always c.tops_are_running.ensures.running c.args.image.now c.is_runnable.ensures.accepted c.is_runnable.ensures.main

pub answer-requires : goal.answer-requires
answer-requires c = c.requires.at

pub hand_down-requires : goal.hand_down-requires
hand_down-requires c =
    let h = c.requires.at.turn.after in
    (c.args.image.now, h.0, h.1, c.in-Ok.ensures.value h.0 h.1 h.2, rooms-of c.args.image.now h.0 h.1 c.args.self.now h.2)

pub fail-requires-clause-ending : goal.fail-requires-clause-ending
fail-requires-clause-ending c =
    let h = c.requires.at.turn.after in
    (c.args.image.now, h.0, h.1, c.in-Err.ensures.fault h.0 h.1 h.2, h.2.numbers)

pub returns-in-Ok-clause-stepped : goal.returns-in-Ok-clause-stepped
returns-in-Ok-clause-stepped c cells choices h =
    let program = c.args.image.now in
    let untouched = answer-untouched c.requires.at.at (known (goal.at.returns-in-Ok-clause-stepped c).After-tops_are_running) h.after c.requires.at.turn.running in
    turned-so program cells choices c.args.p c.hand_down.new.self untouched (c.hand_down.ensures.stepped program cells choices (c.in-Ok.ensures.value cells choices h))
    (c.hand_down.ensures.rooms program cells (rooms-of program cells choices c.args.self.now h))

pub returns-in-Err-clause-stepped : goal.returns-in-Err-clause-stepped
returns-in-Err-clause-stepped c cells choices h =
    let program = c.args.image.now in
    let untouched = answer-untouched c.requires.at.at (known (goal.at.returns-in-Err-clause-stepped c).After-tops_are_running) h.after c.requires.at.turn.running in
    turned-so program cells choices c.args.p c.fail.new.self untouched (c.fail.ensures.stepped program cells choices (c.in-Err.ensures.fault cells choices h))
    (c.fail.ensures.rooms program cells (rooms-of program cells choices c.args.self.now h))
