use Rattle.hep_accepted_laws.proofs.AcceptedFacts.{facts_of}
use Rattle.hep_accepted_laws.proofs.Placed.{variables_of_all, variables_of_operations}
use Rattle.hep_accepted_laws.proofs.Starts.{placed_begins}
use Rattle.hep_accepted_laws.proofs.code.variables_of_the_code_are_placed.Goals as goal

pub returns : goal.returns
returns c = record {
  operations = λ program u i line o accepted h e. variables_of_operations program u (facts_of c.constants_agree.ensures program u accepted h) i line o e;
  all = λ program u i x accepted h e. variables_of_all program u (facts_of c.constants_agree.ensures program u accepted h) i x e;
  begun = placed_begins;
}
