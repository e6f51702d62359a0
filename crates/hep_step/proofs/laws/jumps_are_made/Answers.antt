use Rattle.std.proofs.Common.{refl}
use Rattle.hep_code.specs.declared.instruction.Operation.TheVariants.{Jump, Choose, BySign, Condition, Branch}
use Rattle.hep_step.proofs.Operations.{simulated}
use Rattle.hep_step.proofs.laws.jumps_are_made.Goals as goal

pub returns : goal.returns
returns c = record {
  jump = λ next. simulated (Jump next) refl;
  choose = λ count next. simulated (Choose count next) refl;
  by_sign = λ negative equal positive. simulated (BySign negative equal positive) refl;
  condition = λ otherwise. simulated (Condition otherwise) refl;
  branch = λ inside otherwise. simulated (Branch inside otherwise) refl;
}
