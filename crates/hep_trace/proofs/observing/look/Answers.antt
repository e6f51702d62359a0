use Rattle.std.proofs.Common.{◌∙◌, refl, subst, sym}
use Rattle.hep_core.proofs.GoodTickets.{halted-is}
use Rattle.hep_core.specs.CoreValues.{state_of}
use Rattle.hep_machine.specs.Words.{Units, living, schedule_of}
use Rattle.hep_event.specs.Sites.{LivesAfter}
use Rattle.hep_event.specs.Variables.{AreVariablesOf}
use Rattle.hep_event.proofs.FoundVariables.{levels-of}
use Rattle.hep_state.specs.Words.{snapshot_of}
use Rattle.hep_trace.specs.Observations.{IsObservationOf, name_sought}
use Rattle.hep_trace.proofs.ObservedProcesses.{lives-after}
use Rattle.hep_trace.proofs.observing.look.Goals as goal
use Rattle.hep_source.proofs.Tests.{some_of}

pub coming_of-requires-clause-levels : goal.coming_of-requires-clause-levels
coming_of-requires-clause-levels c =
    let core = c.args.core.now.core in
    let m = c.machine-machine.result.now in
    let top = some_of (living (state_of core) c.args.p) (sym c.lives.ensures ∙ c.if-not-lives.false) in
    let lives : LivesAfter core.program core.cells (schedule_of core.history) m c.args.p top.0 = record {
      after = c.machine-machine.ensures.after;
      running = halted-is core.program core.cells core.history (snapshot_of m) c.machine-machine.ensures.after.after ∙ c.requires.running;
      lives = lives-after core c.args.p top.0 top.1;
    } in
    levels-of lives

pub look_ahead-requires-clause-ahead : goal.look_ahead-requires-clause-ahead
look_ahead-requires-clause-ahead c =
    let core = c.args.core.now.core in
    let m = c.machine-machine.result.now in
    let top = some_of (living (state_of core) c.args.p) (sym c.lives.ensures ∙ c.if-not-lives.false) in
    let lives : LivesAfter core.program core.cells (schedule_of core.history) m c.args.p top.0 = record {
      after = c.machine-machine.ensures.after;
      running = halted-is core.program core.cells core.history (snapshot_of m) c.machine-machine.ensures.after.after ∙ c.requires.running;
      lives = lives-after core c.args.p top.0 top.1;
    } in (
      top.0,
      record {
        program = c.image-image.ensures;
        ahead_is = record {
          lives = subst (λ (u : Units). LivesAfter u core.cells (schedule_of core.history) m c.args.p top.0) (sym c.image-image.ensures) lives;
          coming = c.in_ok-coming.ensures;
          variables = subst (λ (u : Units). AreVariablesOf u c.args.variables.now) (sym c.image-image.ensures) c.requires.variables;
        };
      },
    )

pub returns : goal.returns
returns c =
    let core = c.args.core.now.core in
    let m = c.machine-machine.result.now in
    let top = some_of (living (state_of core) c.args.p) (sym c.lives.ensures ∙ c.if-not-lives.false) in
    let lives : LivesAfter core.program core.cells (schedule_of core.history) m c.args.p top.0 = record {
      after = c.machine-machine.ensures.after;
      running = halted-is core.program core.cells core.history (snapshot_of m) c.machine-machine.ensures.after.after ∙ c.requires.running;
      lives = lives-after core c.args.p top.0 top.1;
    } in
    let shown = c.in_ok-before.ensures top.0 (record {
      program = c.image-image.ensures;
      ahead_is = record {
        lives = subst (λ (u : Units). LivesAfter u core.cells (schedule_of core.history) m c.args.p top.0) (sym c.image-image.ensures) lives;
        coming = c.in_ok-coming.ensures;
        variables = subst (λ (u : Units). AreVariablesOf u c.args.variables.now) (sym c.image-image.ensures) c.requires.variables;
      };
    }) in
    (refl, subst (IsObservationOf core c.args.p (name_sought c.args.cell) c.in_ok-before.before) (sym top.1) shown)
