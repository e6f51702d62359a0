use Rattle.std.proofs.Common.{sym, subst}
use Rattle.hep_machine.specs.Words.{dummies_for}
use Rattle.hep_code.proofs.Entries.{actuals_passed}
use Rattle.hep_step.specs.ArgumentAgreement.{AreGivenAs, given_passed, scope_calling, variables_calling}
use Rattle.hep_step.proofs.References.{all-given}
use Rattle.hep_step.proofs.passing_laws.all_actuals_are_passed.Goals as goal

pub returns-clause-actuals : goal.returns-clause-actuals
returns-clause-actuals c = λ caller b xs actuals calls. all-given caller calls b xs actuals

pub returns-clause-entries : goal.returns-clause-entries
returns-clause-entries c = λ caller b xs actuals more calls placed e.
    subst (λ ps. AreGivenAs caller.program caller.state caller.layout b xs actuals (given_passed caller ps) (dummies_for (scope_calling caller) b xs actuals)) (sym (actuals_passed (variables_calling caller) actuals more)) (
    all-given caller calls b xs actuals placed e)
