use Rattle.std.proofs.Common.{◌≡◌, drop}
use Rattle.std.specs.List.{list_all}
use Rattle.hep_conditions.specs.Words.{has_constant_subscripts}
use Rattle.hep_types.proofs.violation.are_targets_typed.Given as goal

abbrev pub invariant-loop-target : goal.invariant-loop-target
invariant-loop-target l = list_all (has_constant_subscripts l.scope.symbols.now l.scope.parameters.now) (drop l.target-index l.targets) ≡ list_all (has_constant_subscripts l.scope.symbols.now l.scope.parameters.now) l.targets
