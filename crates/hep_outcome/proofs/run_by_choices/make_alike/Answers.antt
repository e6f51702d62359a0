use Rattle.std.proofs.Common.{◌≡◌, ◌+◌, ◌<◌, ◌≤◌, ℕ, Some, ◌∙◌, arith, slice_get}
use Rattle.hep_replay.specs.ChooseFault.TheVariants.{NoSuchProcess, Stopped}
use Rattle.hep_outcome.proofs.Schedules.{choice_is_next, named_turns, nobody_chosen, refused_for, stopped, turns_began}
use Rattle.hep_outcome.proofs.run_by_choices.make_alike.Goals as goal

pub loop-index-preserved : goal.loop-index-preserved
loop-index-preserved c =
    let old = c.loop-index.core.core in
    let i = c.loop-index.index in
    let inv = c.loop-index.invariant in
    let made = c.in-Ok.ensures.made in
    let began = turns_began c.args.process old c.in-Ok.turns c.go_on.new.self.core c.in-Ok.ensures.some made in
    let named : (k : ℕ) → i ≤ k → k < i + c.in-Ok.turns.made → slice_get c.args.options.now.choices k ≡ Some c.args.process = λ k a b. c.requires.alike k (omega (arith, a, inv.from)) (omega (arith, b, c.in-Ok.ensures.few, c.min.ensures)) in
    let more = named_turns c.args.options.now c.args.process i old inv.running (inv.made began.0) c.in-Ok.turns c.go_on.new.self.core c.in-Ok.ensures.some named made in
    record {
      program = more.program ∙ inv.program;
      running = more.running;
      from = omega (arith, inv.from);
      to = omega (arith, c.in-Ok.ensures.few, c.min.ensures);
      made = λ none. omega (arith, more.entries, inv.made began.0);
    }

pub returns-in-Err-Stopped-clause-running : goal.returns-in-Err-Stopped-clause-running
returns-in-Err-Stopped-clause-running c =
    let old = c.loop-index.core.core in
    let i = c.loop-index.index in
    let p = c.args.process in
    let was = refused_for old c.go_on.new.self.core p _ (Stopped c.in-Err-Stopped.field-0-0) c.in-Err-Stopped.field-0-is c.in-Err-Stopped.ensures.refused in
    stopped c.args.options.now old c.go_on.new.self.core p c.in-Err-Stopped.field-0-0 was c.loop-index.invariant.running (
    λ going. choice_is_next old.program c.args.options.now.choices old.history i p going.1 (c.loop-index.invariant.made going.0) (c.requires.alike i c.loop-index.invariant.from c.loop-index-test.true))

pub returns-in-Err-NoSuchProcess-clause-halted : goal.returns-in-Err-NoSuchProcess-clause-halted
returns-in-Err-NoSuchProcess-clause-halted c =
    let old = c.loop-index.core.core in
    let i = c.loop-index.index in
    let p = c.args.process in
    let was = refused_for old c.go_on.new.self.core p _ NoSuchProcess c.in-Err-NoSuchProcess.field-0-is c.in-Err-NoSuchProcess.ensures.refused in
    nobody_chosen c.args.options.now old c.go_on.new.self.core p i was c.loop-index.invariant.running (c.loop-index.invariant.made was.0.0) (c.requires.alike i c.loop-index.invariant.from c.loop-index-test.true)
