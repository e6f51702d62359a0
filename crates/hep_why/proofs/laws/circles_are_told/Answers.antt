use Rattle.hep_why.specs.Reasons.{reasons_of}
use Rattle.hep_why.proofs.ProcessCycles.{circle-told}
use Rattle.hep_why.proofs.OrderedReasons.{reasons-rise}
use Rattle.hep_why.proofs.laws.circles_are_told.Goals as goal

pub returns : goal.returns
returns c program history ps = circle-told (reasons_of program history) (reasons-rise program history) ps
