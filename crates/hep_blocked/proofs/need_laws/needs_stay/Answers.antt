use Rattle.std.proofs.Common.{true, ◌∙◌, sym}
use Rattle.hep_machine.proofs.Others.{activations_after, others_stay}
use Rattle.hep_blocked.proofs.UnchangedNeeds.{need-stays}
use Rattle.hep_blocked.proofs.Waiting.{waits-unmet}
use Rattle.hep_blocked.proofs.need_laws.needs_stay.Goals as goal

pub returns : goal.returns
returns c = record {
  step = λ program p q s t top made. need-stays program p q s t top (λ r e d one h. others_stay program p r s t e d h) (activations_after program p s) made;
  stop = λ program q s. waits-unmet program q (record s { halted = true }) ∙ sym (waits-unmet program q s);
}
