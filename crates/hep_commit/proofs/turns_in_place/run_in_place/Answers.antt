use Rattle.std.proofs.Common.{◌≡◌, suc, is_some, sym, ap, ◌∙◌, subst}
use Rattle.hep_machine.specs.Words.{main_among}
use Rattle.hep_conditions.specs.Words.{IsAccepted}
use Rattle.hep_advance.specs.SilentRuns.{MakesMoves}
use Rattle.hep_state.specs.Words.{LivesOn}
use Rattle.hep_commit.specs.UndoLogs.{saved_in}
use Rattle.hep_commit.specs.TurnsInPlace.{ArePrivateIn, IsAsBefore}
use Rattle.hep_commit.proofs.RunInPlace.{lives-there, put-back, turn-here}
use Rattle.hep_commit.proofs.TurnInPlace.{kept-now, private-behind, turn-behind}
use Rattle.hep_commit.proofs.AppliedSegments.{AreTurnsIn}
use Rattle.hep_commit.proofs.turns_in_place.run_in_place.Goals.{After-private_steps_are_turns, Joined-else-made-steps, else-made-steps-via-then-made-steps+else-is_next_private, else-made-steps-via-else-made-steps}
use Rattle.hep_commit.proofs.turns_in_place.run_in_place.Goals as goal

-- what the law called says of the program
laws : (c : After-private_steps_are_turns) → AreTurnsIn c.args.prepared.now.image.now
laws c t n records end same few turns is =
    c.private_steps_are_turns.ensures t n records end (subst IsAccepted (sym same) c.is_runnable.ensures.accepted) (ap (λ program. is_some (main_among program)) same ∙ c.is_runnable.ensures.main) few turns is

pub is_next_private-requires : goal.is_next_private-requires
is_next_private-requires c =
    turn-behind c.args.prepared.now.image.now c.args.p c.keep.new.machine c.make_private.new.machine c.in-Some.made c.in-Some.ensures.taken c.in-Some.ensures.gone c.in-Some.ensures.others

-- ---- all were made, and another one comes next

pub returns-then-is_next_private-clause-private : goal.returns-then-is_next_private-clause-private
returns-then-is_next_private-clause-private c all =
    let program = c.args.prepared.now.image.now in
    subst (λ m. ArePrivateIn program c.args.p m (suc c.args.steps)) c.keep.ensures.same (
    subst (λ n. ArePrivateIn program c.args.p c.keep.new.machine (suc n)) c.if-made-steps.true (
    private-behind program c.args.p c.keep.new.machine c.make_private.new.machine c.in-Some.made c.in-Some.ensures.taken c.in-Some.ensures.gone c.in-Some.ensures.others
    (laws (goal.at.returns-then-is_next_private-clause-private c).After-private_steps_are_turns) c.if-is_next_private.ensures.private))

pub returns-then-is_next_private-clause-gone : goal.returns-then-is_next_private-clause-gone
returns-then-is_next_private-clause-gone c all =
    let program = c.args.prepared.now.image.now in
    let new = c.is_next_private.new.machine in
    subst (λ m. MakesMoves program c.args.p m c.args.steps new) c.keep.ensures.same (
    subst (λ n. MakesMoves program c.args.p c.keep.new.machine n new) c.if-made-steps.true (
    subst (λ m. MakesMoves program c.args.p c.keep.new.machine c.in-Some.made m) (sym c.is_next_private.ensures.same) c.in-Some.ensures.gone))

pub returns-then-is_next_private-clause-lives : goal.returns-then-is_next_private-clause-lives
returns-then-is_next_private-clause-lives c all =
    let new = c.is_next_private.new.machine in
    subst (λ m. LivesOn c.args.p 0 m new) c.keep.ensures.same (
    lives-there c.args.prepared.now.image.now c.args.p c.keep.new.machine c.make_private.new.machine c.in-Some.made c.in-Some.ensures.taken c.in-Some.ensures.gone c.in-Some.ensures.others new c.is_next_private.ensures.same)

-- ---- not all were, or none comes next

behind : (c : Joined-else-made-steps) → c.else-made-steps.machine ≡ c.make_private.new.machine
behind c = elim c.else-made-steps.branch [
  | else-made-steps-via-then-made-steps+else-is_next_private w ↦ w.machine-is ∙ w.is_next_private.ensures.same
  | else-made-steps-via-else-made-steps w ↦ w.machine-is
]

pub put_back-requires : goal.put_back-requires
put_back-requires c =
    let saved = saved_in c.keep.new.self in
    let there =
    turn-here c.args.prepared.now.image.now c.args.p c.keep.new.machine c.make_private.new.machine c.in-Some.made c.in-Some.ensures.taken c.in-Some.ensures.gone c.in-Some.ensures.others c.else-made-steps.machine
    (behind (goal.at.put_back-requires c).Joined-else-made-steps) saved
    (kept-now c.args.prepared.now.image.now c.args.p c.args.machine.now c.keep.new.machine saved c.keep.result c.if-is_err.ensures.value c.keep.ensures.kept c.keep.ensures.same) in
    record { tables = c.requires.prepared.own; turn = there.0; room = there.1 }

pub returns-clause-none : goal.returns-clause-none
returns-clause-none c none =
    let program = c.args.prepared.now.image.now in
    let saved = saved_in c.keep.new.self in
    let put = c.put_back.ensures in
    subst (λ m. IsAsBefore program m c.put_back.new.machine) c.keep.ensures.same (
    put-back program c.args.p c.keep.new.machine c.make_private.new.machine c.in-Some.made c.in-Some.ensures.taken c.in-Some.ensures.gone c.in-Some.ensures.others c.else-made-steps.machine
    (behind (goal.at.returns-clause-none c).Joined-else-made-steps) saved
    (kept-now program c.args.p c.args.machine.now c.keep.new.machine saved c.keep.result c.if-is_err.ensures.value c.keep.ensures.kept c.keep.ensures.same)
    c.restored_machines_are_as_before.ensures c.put_back.new.machine put.restored put.rooms put.made)
