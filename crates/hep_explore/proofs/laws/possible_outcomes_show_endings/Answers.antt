use Rattle.hep_explore.proofs.Outcomes.{possible_shows}
use Rattle.hep_explore.proofs.laws.possible_outcomes_show_endings.Goals as goal

pub returns : goal.returns
returns c = possible_shows
