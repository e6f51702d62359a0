use Rattle.std.proofs.Common.{refl}
use Rattle.hep_state.proofs.UnchangedStates.{shows-left}
use Rattle.hep_state.proofs.core_state.CoreState.reserve_process.Goals as goal

pub returns-in_err-make_room-clause-same : goal.returns-in_err-make_room-clause-same
returns-in_err-make_room-clause-same c = shows-left c.args.self.now _ c.requires.numbers c.make_room.ensures.left refl

pub returns-in_err-reserve-2-clause-same : goal.returns-in_err-reserve-2-clause-same
returns-in_err-reserve-2-clause-same c = shows-left c.args.self.now _ c.requires.numbers c.make_room.ensures.left refl

pub returns-in_err-with_capacity-clause-same : goal.returns-in_err-with_capacity-clause-same
returns-in_err-with_capacity-clause-same c = shows-left c.args.self.now _ c.requires.numbers c.make_room.ensures.left refl

pub returns-in_err-with_capacity-2-clause-same : goal.returns-in_err-with_capacity-2-clause-same
returns-in_err-with_capacity-2-clause-same c = shows-left c.args.self.now _ c.requires.numbers c.make_room.ensures.left refl

pub returns-clause-same : goal.returns-clause-same
returns-clause-same c = shows-left c.args.self.now _ c.requires.numbers c.make_room.ensures.left refl
