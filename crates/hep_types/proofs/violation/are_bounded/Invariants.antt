use Rattle.std.proofs.Common.{◌≡◌, drop}
use Rattle.std.specs.List.{list_all}
use Rattle.hep_conditions.specs.Words.{has_bounds}
use Rattle.hep_names.specs.Statements.{rest_after}
use Rattle.hep_types.proofs.violation.are_bounded.Given as goal

abbrev pub invariant-loop-declarator : goal.invariant-loop-declarator
invariant-loop-declarator l = list_all (has_bounds l.scope.symbols.now l.scope.parameters.now) (rest_after (drop l.declarator-index l.declarators)) ≡ list_all (has_bounds l.scope.symbols.now l.scope.parameters.now) (rest_after l.declarators)
