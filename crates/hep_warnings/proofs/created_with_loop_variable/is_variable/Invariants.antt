use Rattle.std.proofs.Common.{◌≡◌, drop}
use Rattle.hep_warnings.specs.CreatedWithLoopVariable.{is_variable}
use Rattle.hep_warnings.proofs.created_with_loop_variable.is_variable.Given as goal

abbrev pub invariant-loop-one : goal.invariant-loop-one
invariant-loop-one l = is_variable (drop l.one-index l.around) l.name ≡ is_variable l.around l.name
