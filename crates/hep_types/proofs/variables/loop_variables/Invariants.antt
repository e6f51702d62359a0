use Rattle.std.proofs.Common.{◌≡◌, ◌++◌, drop, map}
use Rattle.hep_machine.specs.Words.{Statement}
use Rattle.hep_conditions.specs.Words.{function_types, has_loop_variable}
use Rattle.hep_types.proofs.variables.loop_variables.Given as goal

abbrev pub invariant-loop-statement : goal.invariant-loop-statement
invariant-loop-statement l =
    let told = λ (s : Statement). has_loop_variable (function_types l.program) l.symbols s.form in
    l.variables.items ++ map told (drop l.statement-index l.statement-items) ≡ map told l.statement-items
