use Rattle.std.proofs.Common.{◌≡◌, ◌++◌, drop}
use Rattle.std.specs.List.{flat_map}
use Rattle.hep_warnings.specs.CreatedWithLoopVariable.{create_warnings, create_warnings_in}
use Rattle.hep_warnings.proofs.created_with_loop_variable.create_warnings.Given as goal

abbrev pub invariant-loop-unit : goal.invariant-loop-unit
invariant-loop-unit l = l.found.items ++ flat_map create_warnings_in (drop l.unit-index l.program) ≡ create_warnings l.program
