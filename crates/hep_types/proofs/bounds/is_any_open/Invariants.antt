use Rattle.std.proofs.Common.{◌≡◌, drop}
use Rattle.std.specs.List.{list_any}
use Rattle.hep_types.specs.Bounds.{is_dimension_open}
use Rattle.hep_types.proofs.bounds.is_any_open.Given as goal

abbrev pub invariant-loop-dimension : goal.invariant-loop-dimension
invariant-loop-dimension l = list_any (is_dimension_open l.scope.symbols.now l.scope.parameters.now) (drop l.dimension-index l.dimensions) ≡ list_any (is_dimension_open l.scope.symbols.now l.scope.parameters.now) l.dimensions
