use Rattle.std.proofs.Common.{◌∙◌, ap}
use Rattle.hep_machine.specs.Words.{function_name, subroutine_name}
use Rattle.hep_names.specs.Tables.{called_from}
use Rattle.hep_names.proofs.Statements.{called-from-start}
use Rattle.hep_names.proofs.program.ProgramSymbols.new.Goals as goal

pub invariant_of-result : goal.invariant_of-result
invariant_of-result c =
    record {
      called = λ x. c.in_ok-subroutines.ensures x ∙ (ap (called_from subroutine_name 0 x) c.deref.ensures.value ∙ called-from-start subroutine_name x c.in_ok-units.units.items);
      referred = λ x. c.in_ok-functions.ensures x ∙ (ap (called_from function_name 0 x) c.deref-2.ensures.value ∙ called-from-start function_name x c.in_ok-units.units.items);
    }
