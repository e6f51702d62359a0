use Rattle.std.proofs.Common.{◌∙◌, ◌++◌, Bool, Ok, ap, subst, true}
use Rattle.std.proofs.lemmas.Result.{IfOk-weaker}
use Rattle.hep_why.specs.Progress.{TurnMade}
use Rattle.hep_replay.proofs.ReplayTurns.{entry_stepped, entry_waited}
use Rattle.hep_event.specs.Traces.{entry_text}
use Rattle.hep_trace.specs.TraceProgress.{progress_of, shown_lines}
use Rattle.hep_trace.specs.LineFilters.{shown_on}
use Rattle.hep_trace.proofs.TracedTurns.{both-ok, shown-steps, shown-wait}
use Rattle.hep_trace.proofs.trace_lines.tell_entry.Goals as goal

pub returns-then-entry-eq0-clause-made : goal.returns-then-entry-eq0-clause-made
returns-then-entry-eq0-clause-made c =
    IfOk-weaker c.tell_shown.result _ _ (λ made turn.
    entry_waited c.args.core.now.core c.tell_shown.new.core.core c.args.entry.process c.args.entry.steps (Ok made) c.if-entry-eq0.true turn) c.tell_shown.ensures.made

pub returns-else-entry-eq0-clause-made : goal.returns-else-entry-eq0-clause-made
returns-else-entry-eq0-clause-made c =
    IfOk-weaker c.tell_steps.result _ _ (λ made steps.
    entry_stepped c.args.core.now.core c.tell_steps.new.core.core c.args.entry.process c.args.entry.steps (Ok made) c.if-entry-eq0.false steps) c.tell_steps.ensures.made

pub returns-then-entry-eq0-clause-told : goal.returns-then-entry-eq0-clause-told
returns-then-entry-eq0-clause-told c =
    let core = c.args.core.now.core in
    let new = c.tell_shown.new.core.core in
    let e = c.args.entry in
    let cell = (shown_on c.args.teller.now.page.now).cell in
    both-ok c.tell_shown.result _ _ _ (λ made turn told is.
    shown-wait c.shows.result cell c.args.number e.process e.steps core new c.args.text.now.items c.tell_shown.new.text.items c.if-entry-eq0.true
    (subst (λ (b : Bool). TurnMade core e.process true (Ok b) new) is turn).2 (told is)
    ∙ ap (λ b. c.args.text.now.items ++ shown_lines b (entry_text core.program cell c.args.number (progress_of core) e e.steps)) c.shows.ensures)
    c.tell_shown.ensures.made c.tell_shown.ensures.told

pub returns-else-entry-eq0-clause-told : goal.returns-else-entry-eq0-clause-told
returns-else-entry-eq0-clause-told c =
    let core = c.args.core.now.core in
    let e = c.args.entry in
    let cell = (shown_on c.args.teller.now.page.now).cell in
    IfOk-weaker c.tell_steps.result _ _ (λ made told is.
    shown-steps c.shows.result core.program cell c.args.number (progress_of core) e.process e.steps c.args.text.now.items c.tell_steps.new.text.items c.if-entry-eq0.false (told is)
    ∙ ap (λ b. c.args.text.now.items ++ shown_lines b (entry_text core.program cell c.args.number (progress_of core) e e.steps)) c.shows.ensures)
    c.tell_steps.ensures.told
