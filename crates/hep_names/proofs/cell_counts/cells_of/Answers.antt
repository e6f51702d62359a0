use Rattle.std.proofs.Common.{◌∙◌, sym}
use Rattle.hep_names.proofs.CellCounts.{scalar, array}
use Rattle.hep_names.proofs.cell_counts.cells_of.Goals as goal

pub returns-then-not-is_array : goal.returns-then-not-is_array
returns-then-not-is_array c = scalar c.args.symbols.now c.args.name.now (sym c.is_array.ensures ∙ c.if-not-is_array.true)

pub returns : goal.returns
returns c =
    array c.args.symbols.now c.args.name.now c.constants.result.now c.dimensions.result.now _ c.element_count.result (sym c.is_array.ensures ∙ c.if-not-is_array.false)
    c.constants.ensures c.in_ok-bounds.ensures c.dimensions.ensures c.element_count.ensures
