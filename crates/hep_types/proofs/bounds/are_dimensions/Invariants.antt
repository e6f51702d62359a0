use Rattle.std.proofs.Common.{◌≡◌, drop}
use Rattle.std.specs.List.{list_all}
use Rattle.hep_conditions.specs.Words.{is_dimension}
use Rattle.hep_types.proofs.bounds.are_dimensions.Given as goal

abbrev pub invariant-loop-dimension : goal.invariant-loop-dimension
invariant-loop-dimension l = list_all (is_dimension l.scope.symbols.now l.scope.parameters.now l.is_of_dummy) (drop l.dimension-index l.dimensions) ≡ list_all (is_dimension l.scope.symbols.now l.scope.parameters.now l.is_of_dummy) l.dimensions
