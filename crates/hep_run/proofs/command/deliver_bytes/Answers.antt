use Rattle.hep_run.specs.Outcome.{IsCommandOutcome}
use Rattle.hep_run.proofs.LargeSources.{large-left}
use Rattle.hep_run.proofs.Outcomes.{made_left}
use Rattle.hep_run.proofs.command.deliver_bytes.Goals as goal

pub returns-clause-left : goal.returns-clause-left
returns-clause-left g c =
    let front = g.C.Front.Front in
    let asked = c.args.asked.now in
    made_left (IsCommandOutcome front.is_refused front.holds (g.C.Command.gives asked.options.now) asked.long c.args.source.now)
    c.transcript_of-made.result _ _ _ _ _ c.transcript_of-made.ensures.made c.deliver_made.ensures

pub returns-clause-large : goal.returns-clause-large
returns-clause-large g c =
    let front = g.C.Front.Front in
    let asked = c.args.asked.now in
    large-left asked.long front.is_refused front.holds (g.C.Command.gives asked.options.now asked.long c.args.source.now) c.args.source.now
    c.transcript_of-made.result _ _ _ _ _ c.transcript_of-made.ensures.made c.transcript_of-made.ensures.unmade c.deliver_made.ensures
