use Rattle.hep_why.specs.Reasons.{reasons_of}
use Rattle.hep_why.proofs.ProcessCycles.{told-circle, told-least}
use Rattle.hep_why.proofs.OrderedReasons.{reasons-rise}
use Rattle.hep_why.proofs.laws.told_circles_are_circles.Goals as goal

pub returns-clause-circle : goal.returns-clause-circle
returns-clause-circle c program history place ps = told-circle (reasons_of program history) (reasons-rise program history) place ps

pub returns-clause-least : goal.returns-clause-least
returns-clause-least c program history place ps = told-least (reasons_of program history) (reasons-rise program history) place ps
