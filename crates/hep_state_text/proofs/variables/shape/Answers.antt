use Rattle.std.proofs.Common.{◌∙◌, ap, sym}
use Rattle.hep_machine.specs.Words.{are_dimensions}
use Rattle.hep_state_text.proofs.Bounded.{scalar, array}
use Rattle.hep_state_text.proofs.variables.shape.Goals as goal

pub returns-then-not-is_array : goal.returns-then-not-is_array
returns-then-not-is_array c =
    record {
      shape = c.new.ensures.items ∙ scalar c.args.symbols.now c.args.name.now (sym c.is_array.ensures ∙ c.if-not-is_array.true);
      dimensions = ap are_dimensions c.new.ensures.items;
    }

pub returns-clause-shape : goal.returns-clause-shape
returns-clause-shape c =
    array c.args.symbols.now c.args.name.now c.constants.result.now c.dimensions-dimensions.result.now _ c.shaped.result.items (sym c.is_array.ensures ∙ c.if-not-is_array.false)
    c.constants.ensures c.in_ok-bounds.ensures c.dimensions-dimensions.ensures c.shaped.ensures.shape
