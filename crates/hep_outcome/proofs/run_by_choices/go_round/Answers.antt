use Rattle.std.proofs.Common.{arith}
use Rattle.hep_replay.proofs.SilentChoices.{rounds-going}
use Rattle.hep_outcome.proofs.Schedules.{IsLonger, rounds_made}
use Rattle.hep_outcome.proofs.run_by_choices.go_round.Goals as goal
use Rattle.hep_outcome.proofs.run_by_choices.go_round.Goals.{After-go_round}

longer : (c : After-go_round) → IsLonger c.args.options.now c.args.core.now.core c.go_round.result c.go_round.new.self.core
longer c = rounds_made c.args.options.now c.args.core.now.core c.requires.running c.requires.made c.go_round.result c.go_round.new.self.core c.go_round.ensures.chosen

pub returns-then-most-eq1-clause-program : goal.returns-then-most-eq1-clause-program
returns-then-most-eq1-clause-program c = (longer (goal.at.returns-then-most-eq1-clause-program c).After-go_round).program

pub returns-then-most-eq1-clause-running : goal.returns-then-most-eq1-clause-running
returns-then-most-eq1-clause-running c = (longer (goal.at.returns-then-most-eq1-clause-running c).After-go_round).running

pub returns-then-most-eq1-clause-made : goal.returns-then-most-eq1-clause-made
returns-then-most-eq1-clause-made c none =
    let far = longer (goal.at.returns-then-most-eq1-clause-made c).After-go_round in
    omega (arith, c.requires.made (rounds-going c.args.core.now.core c.go_round.result c.go_round.new.self.core c.go_round.ensures.chosen none), far.entries)

pub returns-then-most-eq1-clause-more : goal.returns-then-most-eq1-clause-more
returns-then-most-eq1-clause-more c =
    let far = longer (goal.at.returns-then-most-eq1-clause-more c).After-go_round in
    (far.limit, omega (arith, far.entries))
