use Rattle.hep_accepted_laws.proofs.Arrays.{array_in_code, array_of_unit}
use Rattle.hep_accepted_laws.proofs.AcceptedFacts.{facts_of}
use Rattle.hep_accepted_laws.proofs.code.arrays_are_there.Goals as goal

pub returns : goal.returns
returns c = record {
  unit = λ program u i x accepted h e. array_of_unit program u i x (facts_of c.constants_agree.ensures program u accepted h) e;
  code = λ program u i j n asynchronous x accepted h e g. array_in_code program u i j n asynchronous x (facts_of c.constants_agree.ensures program u accepted h) e g;
}
