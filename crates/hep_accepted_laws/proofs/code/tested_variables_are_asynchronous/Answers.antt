use Rattle.hep_accepted_laws.proofs.AcceptedFacts.{facts_of}
use Rattle.hep_accepted_laws.proofs.Placed.{tested_variables}
use Rattle.hep_accepted_laws.proofs.code.tested_variables_are_asynchronous.Goals as goal

pub returns : goal.returns
returns c = λ program u i line n f x accepted h e. tested_variables program u (facts_of c.constants_agree.ensures program u accepted h) i line n f x e
