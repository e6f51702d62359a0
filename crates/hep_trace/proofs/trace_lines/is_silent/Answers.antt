use Rattle.std.proofs.Common.{◌≡◌, false, true, sym, ◌∙◌, rules, subst}
use Rattle.hep_conditions.specs.Words.{IsAccepted}
use Rattle.hep_core.proofs.Histories.{progress-state, state-is}
use Rattle.hep_core.proofs.GoodTickets.{halted-is}
use Rattle.hep_machine.specs.Words.{schedule_of}
use Rattle.hep_advance.specs.BreakpointRows.{IsUnwatched}
use Rattle.hep_state.specs.Words.{snapshot_of}
use Rattle.hep_trace.specs.LineFilters.{shown_on}
use Rattle.hep_trace.specs.TraceProgress.{progress_of}
use Rattle.hep_trace.proofs.UnwatchedTurns.{silent-line}
use Rattle.hep_trace.proofs.trace_lines.is_silent.Goals as goal

pub lives-requires : goal.lives-requires
lives-requires c = c.machine-machine.ensures.after.numbers

pub stands_watched-requires-clause-numbers : goal.stands_watched-requires-clause-numbers
stands_watched-requires-clause-numbers c = c.machine-machine.ensures.after.numbers

pub stands_watched-requires-clause-living : goal.stands_watched-requires-clause-living
stands_watched-requires-clause-living c = let lives : c.lives.result ≡ true = search rules in c.lives.ensures.levels lives

pub returns : goal.returns
returns c is number after =
    let core = c.args.core.now.core in
    let m = c.machine-machine.result.now in
    let none : c.stands_watched.result ≡ false = search rules in
    let accepted = subst IsAccepted c.image.ensures c.is_runnable.ensures.accepted in
    let running = halted-is core.program core.cells core.history (snapshot_of m) c.machine-machine.ensures.after.after ∙ c.requires.running in
    let there = c.stands_watched.ensures.unwatched none running core.program core.cells (schedule_of core.history) c.machine-machine.ensures.after in
    silent-line c.unwatched_turns_access_nothing.ensures core.program accepted c.args.teller.now.watches.now c.args.p (shown_on c.args.teller.now.page.now).cell c.requires.teller.watches number (progress_of core) after (
    subst (IsUnwatched core.program c.args.teller.now.watches.now c.args.p) (sym (progress-state core.program core.history ∙ state-is core.program core.history)) there)
