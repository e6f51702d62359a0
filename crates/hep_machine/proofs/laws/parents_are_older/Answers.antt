use Rattle.hep_machine.specs.Words.{run}
use Rattle.hep_machine.proofs.Ages.{aged, on_stack_made, run_older}
use Rattle.hep_machine.proofs.laws.parents_are_older.Goals as goal

pub returns : goal.returns
returns c = record {
  made = λ program ps a on. on_stack_made (run program ps) a (aged program ps) on;
  older = run_older;
}
