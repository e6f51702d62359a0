use Rattle.std.proofs.Common.{false, subst, sym, refl}
use Rattle.hep_machine.specs.Words.{Units}
use Rattle.hep_outcome.specs.RunsByLots.{IsDrawnOutcome}
use Rattle.hep_outcome.specs.Outcome.{IsProgramOutcome}
use Rattle.hep_outcome.specs.Transcripts.{outcome_of}
use Rattle.hep_inspection.specs.declared.origin.Origin.{Origin}
use Rattle.hep_inspection.specs.Origins.{HasEntries}
use Rattle.hep_inspection.specs.Recorded.{IsRecorded}
use Rattle.hep_inspection.proofs.Remaking.{of-choices}
use Rattle.hep_inspection.proofs.origin.entries_of.Goals as goal

pub returns-in-Choices : goal.returns-in-Choices
returns-in-Choices c =
    let run = outcome_of c.in_ok-chosen-in-Choices.chosen in
    let program = c.args.image.now in
    subst (λ (o : Origin). IsRecorded program o c.entries_of_run.result) (sym c.in-Choices.is) (
    of-choices program c.in-Choices.options run c.entries_of_run.result
    (subst (λ (us : Units). IsProgramOutcome false us c.in-Choices.options.now run) c.in_ok-copy-in-Choices.ensures c.in_ok-chosen-in-Choices.ensures.made) c.entries_of_run.ensures)

pub returns : goal.returns
returns c =
    let drawn = c.in_ok-drawn-in-Lots in
    let program = c.args.image.now in
    subst (λ (o : Origin). HasEntries program o drawn.drawn.history.items) (sym c.in-Lots.is) (
      outcome_of drawn.drawn,
      subst (λ (us : Units). IsDrawnOutcome false us c.in-Lots.options (outcome_of drawn.drawn)) c.in_ok-copy-in-Lots.ensures drawn.ensures.made,
      refl,
    )
