use Rattle.std.proofs.Common.{◌∙◌, ap, is_some, subst, sym}
use Rattle.hep_machine.specs.Words.{main_among}
use Rattle.hep_conditions.specs.Words.{IsAccepted}
use Rattle.hep_commit.proofs.InPlace.{machine-same, made-private, moves, none-too, some-too}
use Rattle.hep_commit.proofs.StandingProcesses.{standing}
use Rattle.hep_commit.proofs.AppliedSegments.{AreTurnsIn}
use Rattle.hep_commit.proofs.application.make_private.Goals as goal
use Rattle.hep_commit.proofs.application.make_private.Goals.{After-private_steps_are_turns}

-- what the law called says of the program
laws : (c : After-private_steps_are_turns) → AreTurnsIn c.args.owned.now.image.now
laws c t n records end same few turns is =
    c.private_steps_are_turns.ensures t n records end (subst IsAccepted (sym same) c.is_runnable.ensures.accepted) (ap (λ program. is_some (main_among program)) same ∙ c.is_runnable.ensures.main) few turns is

pub place-at-requires : goal.place-at-requires
place-at-requires c = record { numbers = c.requires.turn.after.2.numbers; living = c.requires.turn.living }

pub make_private-requires-clause-standing : goal.make_private-requires-clause-standing
make_private-requires-clause-standing c = standing c.requires.turn c.place-at.ensures c.index_mut-process.ensures.value

pub returns-clause-taken : goal.returns-clause-taken
returns-clause-taken c =
    let program = c.args.owned.now.image.now in
    let done = c.make_private.ensures in
    let new = c.make_private.new in
    some-too c.make_private.result done.made (λ n made. made-private program c.args.p c.args.machine.now c.requires.turn c.place-at.ensures c.index_mut-process.ensures.value n new.process new.frames made done.same done.holes done.nodes)

pub returns-clause-gone : goal.returns-clause-gone
returns-clause-gone c =
    let program = c.args.owned.now.image.now in
    let done = c.make_private.ensures in
    let new = c.make_private.new in
    let known = laws (goal.at.returns-clause-gone c).After-private_steps_are_turns in
    some-too c.make_private.result done.made (λ n made. moves program c.args.machine.now (record { number = 0; process = c.args.p }) c.requires.turn c.place-at.ensures c.index_mut-process.ensures.value n new.process new.frames made done.same done.holes done.nodes known)

pub returns-clause-none : goal.returns-clause-none
returns-clause-none c =
    none-too c.make_private.result c.make_private.ensures.none (λ same. machine-same c.args.machine.now c.place-at.result c.index_mut-process.result.now c.make_private.new.process c.make_private.new.frames c.index_mut-process.ensures.value same.0 same.1)
