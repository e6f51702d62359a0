use Rattle.hep_worked.proofs.Rising.{program-rises}
use Rattle.hep_worked.proofs.laws.lines_of_sources_rise.Goals as goal

pub returns : goal.returns
returns c = λ source statements program read reading. program-rises source statements program read reading
