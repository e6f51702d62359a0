use Rattle.std.proofs.Common.{◌≡◌, drop}
use Rattle.std.specs.List.{list_any}
use Rattle.indexmap.specs.IndexMap.{get}
use Rattle.hep_machine.specs.Words.{name_eq}
use Rattle.hep_conditions.specs.Words.{is_wrong_group}
use Rattle.hep_storage.specs.ArrayShapes.{IsTable}
use Rattle.hep_storage.proofs.violation.is_any_wrong.Given as goal

abbrev pub invariant-loop-group : goal.invariant-loop-group
invariant-loop-group l =
    IsTable l.symbols (get name_eq l.shapes.shapes)
    × (list_any (is_wrong_group l.symbols l.constants) (drop l.group-index l.groups) ≡ list_any (is_wrong_group l.symbols l.constants) l.groups)
