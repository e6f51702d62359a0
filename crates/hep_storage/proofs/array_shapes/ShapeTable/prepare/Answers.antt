use Rattle.indexmap.specs.IndexMap.{get}
use Rattle.hep_machine.specs.Words.{name_eq, value_among}
use Rattle.hep_storage.proofs.ShapeBounds.{table-turn}
use Rattle.hep_storage.proofs.array_shapes.ShapeTable.prepare.Goals as goal

pub returns-in_ok-insert-clause-table : goal.returns-in_ok-insert-clause-table
returns-in_ok-insert-clause-table c =
    table-turn c.args.symbols.now (value_among c.constants.result.now) (get name_eq c.args.self.now.shapes) (get name_eq c.insert.new.self) c.args.name.now c.array_shape.result _ c.dimensions.result.now
    c.constants.ensures c.requires.table (λ y. c.in_ok-insert.ensures.updates.0 y) c.array_shape.ensures c.in_ok-bounds.ensures c.dimensions.ensures
