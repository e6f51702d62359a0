use Rattle.std.proofs.Common.{◌≡◌, drop}
use Rattle.indexmap.specs.IndexMap.{get}
use Rattle.hep_machine.specs.Words.{Name, name_eq}
use Rattle.hep_conditions.specs.Words.{known_shape, known_shape_from}
use Rattle.hep_types.specs.Shapes.{shape_or}
use Rattle.hep_types.proofs.shapes.shapes_of.Given as goal

abbrev pub invariant-loop-statement : goal.invariant-loop-statement
invariant-loop-statement l = (x : Name) → shape_or (get name_eq l.shapes.map x) (known_shape_from l.symbols l.parameters (drop l.statement-index l.statement-items) x) ≡ known_shape l.symbols x
