use Rattle.hep_accepted_laws.proofs.CodedCalls.{call_agrees, create_agrees, reference_agrees}
use Rattle.hep_accepted_laws.proofs.AcceptedFacts.{facts_of}
use Rattle.hep_accepted_laws.proofs.code.calls_agree.Goals as goal

pub returns : goal.returns
returns c = record {
  call = λ program u i line v n next accepted h e. call_agrees program u (facts_of c.constants_agree.ensures program u accepted h) accepted h i line v n next e;
  create = λ program u i line v n next accepted h e. create_agrees program u (facts_of c.constants_agree.ensures program u accepted h) accepted h i line v n next e;
  refer = λ program u i line v n accepted h e. reference_agrees program u (facts_of c.constants_agree.ensures program u accepted h) accepted h i line v n e;
}
