use Rattle.hep_why.proofs.CycleLinks.{lead}
use Rattle.hep_why.proofs.laws.circles_lead_back.Goals as goal

pub returns : goal.returns
returns c nexts first most indexes e = lead nexts first most first indexes e
