use Rattle.std.proofs.Common.{is_some, sym, ap, ◌∙◌, subst}
use Rattle.hep_machine.specs.Words.{main_among}
use Rattle.hep_conditions.specs.Words.{IsAccepted}
use Rattle.hep_advance.specs.SilentRuns.{MakesMoves}
use Rattle.hep_state.specs.Words.{LivesOn}
use Rattle.hep_commit.specs.UndoLogs.{saved_in}
use Rattle.hep_commit.specs.TurnsInPlace.{IsAsBefore, IsMadeInPlace}
use Rattle.hep_commit.proofs.TurnInPlace.{all-as-before, in-place-of, kept-now, lives-behind, moves-all, none-more, turn-behind, turn-there}
use Rattle.hep_commit.proofs.AppliedSegments.{AreTurnsIn}
use Rattle.hep_commit.proofs.turns_in_place.turn_in_place.Goals.{After-private_steps_are_turns}
use Rattle.hep_commit.proofs.turns_in_place.turn_in_place.Goals as goal

-- what the law called says of the program
laws : (c : After-private_steps_are_turns) → AreTurnsIn c.args.prepared.now.image.now
laws c t n records end same few turns is =
    c.private_steps_are_turns.ensures t n records end (subst IsAccepted (sym same) c.is_runnable.ensures.accepted) (ap (λ program. is_some (main_among program)) same ∙ c.is_runnable.ensures.main) few turns is

pub end_turn-made-requires-clause-turn : goal.end_turn-made-requires-clause-turn
end_turn-made-requires-clause-turn c =
    turn-behind c.args.prepared.now.image.now c.args.p c.keep.new.machine c.make_private.new.machine c.in-Some.steps c.in-Some.ensures.taken c.in-Some.ensures.gone c.in-Some.ensures.others

-- ---- no turn came of it

pub put_back-requires : goal.put_back-requires
put_back-requires c =
    let program = c.args.prepared.now.image.now in
    let saved = saved_in c.keep.new.self in
    let mid = c.make_private.new.machine in
    let new = c.end_turn-made.new.machine in
    let done = c.end_turn-made.ensures in
    let there =
    turn-there program c.args.p c.keep.new.machine mid c.in-Some.steps c.in-Some.ensures.taken c.in-Some.ensures.gone c.in-Some.ensures.others new done.lives
    (none-more program c.args.p c.in-Some.steps c.end_turn-made.result mid new c.if-made-eq0.true done.gone) (done.none c.if-made-eq0.true) saved
    (kept-now program c.args.p c.args.machine.now c.keep.new.machine saved c.keep.result c.if-is_err.ensures.value c.keep.ensures.kept c.keep.ensures.same) in
    record { tables = c.requires.prepared.own; turn = there.0; room = there.1 }

pub returns-then-made-eq0-clause-none : goal.returns-then-made-eq0-clause-none
returns-then-made-eq0-clause-none c zero =
    let program = c.args.prepared.now.image.now in
    let saved = saved_in c.keep.new.self in
    let mid = c.make_private.new.machine in
    let new = c.end_turn-made.new.machine in
    let done = c.end_turn-made.ensures in
    let put = c.put_back.ensures in
    subst (λ m. IsAsBefore program m c.put_back.new.machine) c.keep.ensures.same (
    all-as-before program c.args.p c.keep.new.machine mid c.in-Some.steps c.in-Some.ensures.taken c.in-Some.ensures.gone c.in-Some.ensures.others new done.lives
    (none-more program c.args.p c.in-Some.steps c.end_turn-made.result mid new zero done.gone) (done.none zero) saved
    (kept-now program c.args.p c.args.machine.now c.keep.new.machine saved c.keep.result c.if-is_err.ensures.value c.keep.ensures.kept c.keep.ensures.same)
    c.restored_machines_are_as_before.ensures c.put_back.new.machine put.restored put.rooms put.made)

-- ---- one did

pub returns-else-made-eq0-clause-made : goal.returns-else-made-eq0-clause-made
returns-else-made-eq0-clause-made c some =
    let program = c.args.prepared.now.image.now in
    let total = c.end_turn-made.result in
    subst (λ m. IsMadeInPlace program c.args.p m total) c.keep.ensures.same (
    in-place-of program c.args.p c.keep.new.machine c.make_private.new.machine c.in-Some.steps c.in-Some.ensures.taken c.in-Some.ensures.gone c.in-Some.ensures.others
    (laws (goal.at.returns-else-made-eq0-clause-made c).After-private_steps_are_turns) total (c.end_turn-made.ensures.ended some))

pub returns-else-made-eq0-clause-gone : goal.returns-else-made-eq0-clause-gone
returns-else-made-eq0-clause-gone c some =
    let program = c.args.prepared.now.image.now in
    let total = c.end_turn-made.result in
    let new = c.end_turn-made.new.machine in
    subst (λ m. MakesMoves program c.args.p m total new) c.keep.ensures.same (
    moves-all program c.args.p c.keep.new.machine c.make_private.new.machine c.in-Some.steps c.in-Some.ensures.taken c.in-Some.ensures.gone c.in-Some.ensures.others new total (
    c.end_turn-made.ensures.ended some) c.end_turn-made.ensures.gone)

pub returns-else-made-eq0-clause-lives : goal.returns-else-made-eq0-clause-lives
returns-else-made-eq0-clause-lives c some =
    let new = c.end_turn-made.new.machine in
    subst (λ m. LivesOn c.args.p 0 m new) c.keep.ensures.same (
    lives-behind c.args.prepared.now.image.now c.args.p c.keep.new.machine c.make_private.new.machine c.in-Some.steps c.in-Some.ensures.taken c.in-Some.ensures.gone c.in-Some.ensures.others new c.end_turn-made.ensures.lives)
