use Rattle.std.proofs.Common.{◌∙◌, ap}
use Rattle.std.specs.List.{list_any}
use Rattle.hep_conditions.specs.Words.{is_open, trees_in_dimension}
use Rattle.hep_types.specs.Bounds.{is_dimension_open}
use Rattle.hep_types.proofs.Dimensions.{any-within}
use Rattle.hep_types.proofs.Results.{ok-also}
use Rattle.hep_types.proofs.bounds.are_bounds_open.Goals as goal

pub returns : goal.returns
returns c =
    ok-also c.is_any_open.result
    (λ b e.
    e
    ∙ (ap (list_any (is_dimension_open c.args.scope.now.symbols.now c.args.scope.now.parameters.now)) c.as_slice.ensures
    ∙ any-within (is_open c.args.scope.now.symbols.now c.args.scope.now.parameters.now) trees_in_dimension c.args.declarator.now.dimensions))
    c.is_any_open.ensures
