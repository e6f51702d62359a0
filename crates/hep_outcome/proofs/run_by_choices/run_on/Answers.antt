use Rattle.std.proofs.Common.{◌≡◌, ◌≤◌, ◌∙◌, ℕ, sym, length, None, Some, arith}
use Rattle.hep_machine.specs.Words.{last_process, next_ready}
use Rattle.hep_replay.specs.ChooseFault.TheVariants.{Stopped, NoSuchProcess}
use Rattle.hep_replay.specs.Turns.{Turns}
use Rattle.hep_replay.specs.SilentChoices.{AreTurns}
use Rattle.hep_replay.specs.CoreValues.{CoreValue, next_ready_of}
use Rattle.hep_outcome.specs.declared.options.Options.{Options}
use Rattle.hep_outcome.specs.RunProgress.{IsRunning}
use Rattle.hep_outcome.proofs.Schedules.{IsLonger, comes_next, next_is_ready, none_is_next, ready_lives, ready_longer, refused_for, stopped, turns_began}
use Rattle.hep_outcome.proofs.run_by_choices.run_on.Goals as goal
use Rattle.hep_source.proofs.Tests.{none-if_not}

-- the process that was found ready comes next
comes : (options : Options) (core : CoreValue) → IsRunning options core → (p : ℕ) → Some p ≡ next_ready_of core → next_ready core.program core.history ≡ Some p
comes options core running p is = sym (comes_next options core running) ∙ sym is

-- what came of choosing it
chosen-so : (options : Options) (p most : ℕ) (old new : CoreValue) (turns : Turns) → IsRunning options old → (old.stop ≡ None → length options.choices ≤ length old.history) → Some p ≡ next_ready_of old
    → 1 ≤ turns.made → turns.made ≤ most → (2 ≤ most → last_process old.history ≡ p) → AreTurns old p turns new → IsLonger options old turns.made new
chosen-so options p most old new turns running past is some few alone made =
    ready_longer options p old running past (comes options old running p is) turns new some (λ two. alone (omega (arith, two, few))) made

pub go_round-requires-clause-running : goal.go_round-requires-clause-running
go_round-requires-clause-running c =
    let inv = c.loop-process.invariant in
    let done = c.in-Ok.ensures in
    (chosen-so c.args.options.now c.in-Some.process c.most_at_once-most.result c.loop-process.core.core c.go_on.new.self.core c.in-Ok.field-0 inv.running inv.made c.in-Some.ensures done.some done.few c.most_at_once-most.ensures.alone done.made).running

pub go_round-requires-clause-made : goal.go_round-requires-clause-made
go_round-requires-clause-made c none =
    let inv = c.loop-process.invariant in
    let done = c.in-Ok.ensures in
    let more = chosen-so c.args.options.now c.in-Some.process c.most_at_once-most.result c.loop-process.core.core c.go_on.new.self.core c.in-Ok.field-0 inv.running inv.made c.in-Some.ensures done.some done.few c.most_at_once-most.ensures.alone done.made in
    omega (arith, more.entries, inv.made (turns_began c.in-Some.process c.loop-process.core.core c.in-Ok.field-0 c.go_on.new.self.core done.some done.made).0)

pub loop-process-preserved : goal.loop-process-preserved
loop-process-preserved c =
    let inv = c.loop-process.invariant in
    let done = c.in-Ok.ensures in
    let more = chosen-so c.args.options.now c.in-Some.process c.most_at_once-most.result c.loop-process.core.core c.go_on.new.self.core c.in-Ok.field-0 inv.running inv.made c.in-Some.ensures done.some done.few c.most_at_once-most.ensures.alone done.made in
    let round = c.go_round.ensures in
    record { program = round.program ∙ (more.program ∙ inv.program); running = round.running; made = round.made }

pub loop-process-smaller : goal.loop-process-smaller
loop-process-smaller c =
    let inv = c.loop-process.invariant in
    let done = c.in-Ok.ensures in
    let more = chosen-so c.args.options.now c.in-Some.process c.most_at_once-most.result c.loop-process.core.core c.go_on.new.self.core c.in-Ok.field-0 inv.running inv.made c.in-Some.ensures done.some done.few c.most_at_once-most.ensures.alone done.made in
    omega (arith, more.entries, more.limit, more.room done.some, done.some, c.go_round.ensures.more.0, c.go_round.ensures.more.1)

pub returns-in-Err-Stopped-clause-running : goal.returns-in-Err-Stopped-clause-running
returns-in-Err-Stopped-clause-running c =
    let old = c.loop-process.core.core in
    let was = refused_for old c.go_on.new.self.core c.in-Some.process _ (Stopped c.in-Err-Stopped.field-0-0) c.in-Err-Stopped.field-0-is c.in-Err-Stopped.ensures.refused in
    stopped c.args.options.now old c.go_on.new.self.core c.in-Some.process c.in-Err-Stopped.field-0-0 was c.loop-process.invariant.running (
    λ going. next_is_ready old.program c.args.options.now.choices old.history going.1 (c.loop-process.invariant.made going.0) ∙ comes c.args.options.now old c.loop-process.invariant.running c.in-Some.process c.in-Some.ensures)

pub unreachable-requires : goal.unreachable-requires
unreachable-requires c =
    let old = c.loop-process.core.core in
    ready_lives old.program old.history c.in-Some.process (comes c.args.options.now old c.loop-process.invariant.running c.in-Some.process c.in-Some.ensures) (
    refused_for old c.go_on.new.self.core c.in-Some.process _ NoSuchProcess c.in-Err-NoSuchProcess.field-0-is c.in-Err-NoSuchProcess.ensures.refused).1

pub returns-clause-over : goal.returns-clause-over
returns-clause-over c = λ none.
    let old = c.loop-process.core.core in
    none_is_next old.program c.args.options.now.choices old.history (c.loop-process.invariant.made none) (sym (comes_next c.args.options.now old c.loop-process.invariant.running) ∙ sym c.next_ready.ensures ∙ none-if_not c.next_ready.result c.in_default.not-Some)
