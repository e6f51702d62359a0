use Rattle.std.proofs.Common.{◌≡◌, [], replicate, refl, sym, subst}
use Rattle.hep_conditions.specs.Words.{IsAccepted}
use Rattle.hep_core.proofs.Histories.{progress-state}
use Rattle.hep_why.specs.Progress.{AreMade, begun}
use Rattle.hep_advance.specs.BreakpointRows.{PassesFrom}
use Rattle.hep_event.specs.Traces.{trace_from}
use Rattle.hep_trace.specs.LineFilters.{shown_on}
use Rattle.hep_trace.specs.TraceProgress.{progress_of}
use Rattle.hep_trace.proofs.EntriesLeft.{lines-none}
use Rattle.hep_trace.proofs.UnwatchedTurns.{choices-made, trace-silent}
use Rattle.hep_trace.proofs.trace_lines.make_silent.Goals as goal

pub returns-then-run-ne1-clause-made : goal.returns-then-run-ne1-clause-made
returns-then-run-ne1-clause-made c = begun c.args.core.now.core

pub returns-then-run-ne1-clause-silent : goal.returns-then-run-ne1-clause-silent
returns-then-run-ne1-clause-silent c number = lines-none c.args.core.now.core.program (shown_on c.args.teller.now.page.now) number (progress_of c.args.core.now.core) [] refl

pub returns-clause-made : goal.returns-clause-made
returns-clause-made c =
    let old = c.args.core.now.core in
    let new = c.pass_on.new.self.core in
    let p = c.args.run.process in
    subst (λ n. AreMade (record { process = p; steps = n }) old c.pass_on.result new) (sym c.if-run-ne1.false) (choices-made p old c.pass_on.result new c.requires.standing c.pass_on.ensures.chosen)

pub returns-clause-silent : goal.returns-clause-silent
returns-clause-silent c number =
    let core = c.args.core.now.core in
    let p = c.args.run.process in
    let shown = shown_on c.args.teller.now.page.now in
    let accepted = subst IsAccepted c.image.ensures c.is_runnable.ensures.accepted in
    let passes = subst (λ s. PassesFrom core.program c.args.teller.now.watches.now p s c.pass_on.result) (sym (progress-state core.program core.history)) c.pass_on.ensures.unwatched in
    subst (λ n. trace_from core.program shown number (progress_of core) (replicate c.pass_on.result (record { process = p; steps = n })) ≡ []) (sym c.if-run-ne1.false) (
    trace-silent c.unwatched_turns_access_nothing.ensures core.program accepted c.args.teller.now.watches.now p shown c.requires.teller.watches c.pass_on.result number (progress_of core) passes)
