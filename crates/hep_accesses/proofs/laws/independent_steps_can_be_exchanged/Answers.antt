use Rattle.hep_accesses.proofs.Uses.{independent-exchanged, possible-before, run-exchanged}
use Rattle.hep_accesses.proofs.laws.independent_steps_can_be_exchanged.Goals as goal

pub returns : goal.returns
returns c = record {
  steps = λ program s t u p q e f h. independent-exchanged program s t u p q e f h;
  possible = λ program s t v p q e f h. possible-before program s t v p q e f h;
  runs = λ program front rest t u p q e f h. run-exchanged program front rest t u p q e f h;
}
