use Rattle.std.proofs.Common.{sym, subst}
use Rattle.hep_code.proofs.Entries.{actuals_passed}
use Rattle.hep_step.specs.ArgumentAgreement.{arrays_calling, variables_calling}
use Rattle.hep_step.specs.ReadyToPass.{ArePassable}
use Rattle.hep_step.proofs.ReadyToPass.{actuals-passable, caller-framed, variable-passable}
use Rattle.hep_step.specs.StepReady.{frame_in_arena}
use Rattle.hep_step.proofs.passing_laws.callers_can_pass.Goals as goal

pub returns-clause-frame : goal.returns-clause-frame
returns-clause-frame c = caller-framed

pub returns-clause-variable : goal.returns-clause-variable
returns-clause-variable c = λ caller x vs calls memory placed. variable-passable caller calls memory placed x vs

pub returns-clause-actuals : goal.returns-clause-actuals
returns-clause-actuals c = λ caller actuals more calls memory placed.
    subst (ArePassable caller.arena (arrays_calling caller) (frame_in_arena caller.frame)) (sym (actuals_passed (variables_calling caller) actuals more)) (
    actuals-passable caller calls memory placed actuals)
