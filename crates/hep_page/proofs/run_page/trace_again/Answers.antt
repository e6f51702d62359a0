use Rattle.std.proofs.Common.{ℕ, ◌∙◌, arith, subst}
use Rattle.hep_event.specs.Traces.{trace_text}
use Rattle.hep_machine.specs.Words.{Units}
use Rattle.hep_replay.specs.declared.replay_fault.ReplayFault.{ReplayFault}
use Rattle.hep_replay.specs.declared.replay_fault.ReplayFault.TheVariants.{Refused}
use Rattle.hep_replay.specs.HistoryPrefix.{first_of}
use Rattle.hep_replay.specs.Replays.{IsUnmade}
use Rattle.hep_page.specs.Pages.{shown_from}
use Rattle.hep_page.proofs.PagesOfCores.{never-refused}
use Rattle.hep_page.proofs.run_page.trace_again.Goals as goal

pub trace_history-requires-clause-some : goal.trace_history-requires-clause-some
trace_history-requires-clause-some c = omega (arith, c.requires.replayed.some, c.cells.ensures)

pub trace_history-requires-clause-few : goal.trace_history-requires-clause-few
trace_history-requires-clause-few c = omega (arith, c.requires.replayed.few, c.cells.ensures)

pub returns-in-Ok : goal.returns-in-Ok
returns-in-Ok c =
    let shown = c.args.shown.now in
    let program = c.in_ok-image.ensures ∙ c.image.ensures in
    c.in-Ok.ensures.told ∙ (λ i. trace_text (program i) (shown_from shown.first (c.len.ensures.count i)) (first_of shown.entries))

pub unreachable-requires-in-Err-Refused : goal.unreachable-requires-in-Err-Refused
unreachable-requires-in-Err-Refused c =
    let core = c.args.core.now.core in
    let entries = first_of c.args.shown.now.entries in
    let refused = c.in-Err-Refused in
    never-refused core.program core.cells entries refused.field-0-0 refused.field-0-1 c.requires.possible (
    subst (λ (us : Units). IsUnmade us core.cells entries (Refused refused.field-0-0 refused.field-0-1)) (c.in_ok-image.ensures ∙ c.image.ensures) (
    subst (λ (n : ℕ). IsUnmade c.in_ok-image.image n entries (Refused refused.field-0-0 refused.field-0-1)) c.cells.ensures (
    subst (λ (fault : ReplayFault). IsUnmade c.in_ok-image.image c.cells.result entries fault) refused.field-0-is refused.ensures.unmade)))
