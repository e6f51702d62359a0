use Rattle.std.proofs.Common.{◌≡◌, ◌++◌, drop}
use Rattle.hep_warnings.specs.CreatedWithLoopVariable.{create_warnings_from, create_warnings_in}
use Rattle.hep_warnings.proofs.created_with_loop_variable.add_unit.Given as goal

abbrev pub invariant-loop-statement : goal.invariant-loop-statement
invariant-loop-statement l =
    l.found.items ++ create_warnings_from l.around.items (drop l.statement-index l.unit) ≡ l.initial.found.items ++ create_warnings_in l.unit
