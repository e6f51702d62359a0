use Rattle.std.proofs.Common.{ap, is_some}
use Rattle.hep_machine.specs.Words.{run}
use Rattle.hep_event.proofs.FoundVariables.{levels-of}
use Rattle.hep_diff.proofs.SiteValues.{deed-is}
use Rattle.hep_diff.proofs.next_process_step.deed_by.Goals as goal

pub coming_of-requires-clause-levels : goal.coming_of-requires-clause-levels
coming_of-requires-clause-levels c = levels-of c.requires.3

pub returns : goal.returns
returns c cells choices top lives =
    deed-is c.args.image.now (run c.args.image.now choices) c.args.p c.args.entry top c.whereabouts-place.result c.found.result lives.lives
    (c.whereabouts-place.ensures cells choices lives.after (ap is_some lives.lives)) (c.found.ensures cells choices top lives)
