use Rattle.std.proofs.Common.{◌∙◌, sym}
use Rattle.hep_types.proofs.Dimensions.{bounds-right}
use Rattle.hep_types.proofs.bounds.has_bounds.Goals as goal

pub returns : goal.returns
returns c =
    bounds-right c.args.scope.now.symbols.now c.args.scope.now.parameters.now c.args.declarator.now c.is_dummy-is_of_dummy.result _ _ _ c.as_slice-dimensions.result.now c.known.result.now _ _
    (sym c.is_empty.ensures ∙ c.if-is_empty.false) c.are_right.ensures c.in_ok-are_dimensions.ensures
    c.is_dummy-is_of_dummy.ensures c.as_slice-dimensions.ensures c.in_ok-are_open.ensures c.is_shape_if_known.ensures c.in_ok-bounds.ensures c.known.ensures
