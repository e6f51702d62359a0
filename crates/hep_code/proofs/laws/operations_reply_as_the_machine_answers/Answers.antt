use Rattle.hep_code.proofs.Replies.{reply_is, stored_is, assignment_is}
use Rattle.hep_code.proofs.laws.operations_reply_as_the_machine_answers.Goals as goal

pub returns : goal.returns
returns c = record {
  redex = λ addressing store cells scope address variables r found h. reply_is addressing store cells found scope address variables r h;
  stored = λ addressing store cells scope address variables x v subscripts found h. stored_is addressing store cells found scope address variables x v subscripts h;
  assigned = λ program top asynchronous location v. assignment_is program top asynchronous location v;
}
