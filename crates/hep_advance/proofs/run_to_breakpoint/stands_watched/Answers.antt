use Rattle.std.proofs.Common.{◌≡◌, sym, ap, ◌∙◌}
use Rattle.hep_proc.specs.declared.process.Local.{Local}
use Rattle.hep_state.proofs.Processes.{process-at, some-levels-at}
use Rattle.hep_state.proofs.TopActivations.{turning}
use Rattle.hep_state.specs.Words.{HasLevels, snapshot_of, turn_with}
use Rattle.hep_advance.specs.BreakpointRows.{is_watched, watched_at}
use Rattle.hep_advance.proofs.RunsToBreakpoint.{unwatched-there}
use Rattle.hep_advance.proofs.run_to_breakpoint.stands_watched.Goals.{After-watched_at}
use Rattle.hep_advance.proofs.run_to_breakpoint.stands_watched.Goals as goal

pub place-at-requires : goal.place-at-requires
place-at-requires c = record { numbers = c.requires.numbers; living = c.requires.living }

pub top-level-requires : goal.top-level-requires
top-level-requires c = some-levels-at (process-at c.args.machine.now c.args.p c.requires.numbers c.place-at.ensures c.requires.living.kept c.index.ensures)

at : (c : After-watched_at) (e : HasLevels (snapshot_of c.args.machine.now) c.args.p) → c.watched_at.result ≡ is_watched c.args.watches.now e.level.unit e.level.index
at c e =
    let it = process-at c.args.machine.now c.args.p c.requires.numbers c.place-at.ensures e.kept c.index.ensures in
    let level : c.top-level.result ≡ e.level = c.top-level.ensures e.level e.below e.operands e.pending it.stack in
    c.watched_at.ensures
    ∙ ap (λ row. watched_at row c.top-level.result.index) c.row_of.ensures
    ∙ ap (λ (l : Local). is_watched c.args.watches.now l.unit l.index) level

pub returns-clause-place : goal.returns-clause-place
returns-clause-place c e = at (goal.at.returns-clause-place c).After-watched_at e

pub returns-clause-unwatched : goal.returns-clause-unwatched
returns-clause-unwatched c none running program cells choices h =
    let e = c.requires.living in
    let turn = turning c.args.p h.after e running in
    unwatched-there (turn_with program cells choices e turn.0) turn.1 c.args.watches.now (sym (at (goal.at.returns-clause-unwatched c).After-watched_at e) ∙ none)
