use Rattle.hep_names.proofs.CellCounts.{adjustable}
use Rattle.hep_names.proofs.cell_counts.adjustable_dimensions.Goals as goal

pub returns-clause-counted : goal.returns-clause-counted
returns-clause-counted c =
    adjustable c.args.symbols.now c.args.name.now c.constants.result.now c.dimensions-dimensions.result.now _ c.adjustable_count.result c.constants.ensures c.in_ok-bounds.ensures c.dimensions-dimensions.ensures
    c.adjustable_count.ensures.counted
