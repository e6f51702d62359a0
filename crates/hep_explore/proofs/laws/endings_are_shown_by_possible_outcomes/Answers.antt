use Rattle.hep_explore.proofs.Outcomes.{shown_possible}
use Rattle.hep_explore.proofs.laws.endings_are_shown_by_possible_outcomes.Goals as goal

pub returns : goal.returns
returns c = shown_possible
