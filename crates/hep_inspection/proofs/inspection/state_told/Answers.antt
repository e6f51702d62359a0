use Rattle.std.proofs.Common.{◌∙◌, ap}
use Rattle.hep_replay.specs.HistoryPrefix.{first_of}
use Rattle.hep_state_text.specs.States.{state_text}
use Rattle.hep_state_text.specs.LineDisplay.{line_shown}
use Rattle.hep_text.specs.Line.{lines}
use Rattle.hep_inspection.proofs.InspectedStates.{state-told}
use Rattle.hep_inspection.proofs.inspection.state_told.Goals as goal

pub returns-in-Ok-clause-told : goal.returns-in-Ok-clause-told
returns-in-Ok-clause-told c =
    let core = c.in_ok-core.core.core in
    let entries = first_of c.args.entries.now in
    c.in-Ok.ensures
    ∙ ap (λ n. state_text (line_shown (lines c.args.source.now)) core.program n core.history) c.len.ensures.count
    ∙ state-told core c.args.source.now c.args.image c.args.arena entries c.in_ok-core.ensures.made
