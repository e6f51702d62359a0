use Rattle.std.proofs.Common.{◌≡◌, ℕ, ◌+◌, ◌≤◌, Bool, false, Ok, length, replicate, subst, arith}
use Rattle.hep_machine.specs.Words.{AreSteps}
use Rattle.hep_core.specs.CoreValues.{state_of}
use Rattle.hep_replay.specs.Progress.{longer, TurnMade}
use Rattle.hep_replay.specs.Replays.{most_entries}
use Rattle.hep_replay.proofs.ReplayTurns.{one, standing_longer, steps_end, steps_more}
use Rattle.hep_replay.proofs.history_replay.make_steps.Goals as goal

pub make_turn-requires : goal.make_turn-requires
make_turn-requires c = standing_longer c.args.core.now.core c.loop.core.core (replicate c.loop.counter (one c.args.process)) c.loop.invariant.made

pub returns-then-not-branch : goal.returns-then-not-branch
returns-then-not-branch c =
    steps_end c.args.core.now.core c.loop.core.core c.make_turn.new.core.core c.args.process c.loop.counter c.args.steps c.loop-test.true c.loop.invariant.made (
    subst (λ (b : Bool). TurnMade c.loop.core.core c.args.process false (Ok b) c.make_turn.new.core.core) c.if-not-branch.true c.in_ok-make_turn.ensures)

pub loop-preserved : goal.loop-preserved
loop-preserved c =
    let more = steps_more c.args.core.now.core c.loop.core.core c.make_turn.new.core.core c.args.process c.loop.counter c.loop.invariant.there c.loop.invariant.made (
    subst (λ (b : Bool). TurnMade c.loop.core.core c.args.process false (Ok b) c.make_turn.new.core.core) c.if-not-branch.false c.in_ok-make_turn.ensures) in
    record { within = more.0; there = more.1; made = more.2 }

pub returns : goal.returns
returns c =
    let all : c.loop.counter ≡ c.args.steps = omega arith in
    let P : ℕ → Type 0 = λ n. (length c.args.core.now.core.history + n ≤ most_entries) × AreSteps c.args.core.now.core.program (state_of c.args.core.now.core) (replicate n c.args.process) × (c.loop.core.core ≡ longer c.args.core.now.core (replicate n (one c.args.process))) in
    subst P all (c.loop.invariant.within, c.loop.invariant.there, c.loop.invariant.made)
