use Rattle.std.proofs.Common.{take}
use Rattle.indexmap.specs.IndexMap.{get}
use Rattle.hep_machine.specs.Words.{name_eq}
use Rattle.hep_storage.specs.InitializedElements.{Gives}
use Rattle.hep_storage.specs.DataGroups.{elements_of_groups}
use Rattle.hep_storage.specs.ArrayShapes.{IsTable}
use Rattle.hep_storage.proofs.violation.give_groups.Given as goal

abbrev pub invariant-loop-group : goal.invariant-loop-group
invariant-loop-group l =
    IsTable l.symbols (get name_eq l.shapes.shapes)
    × Gives l.symbols l.initial.given l.given (elements_of_groups l.symbols l.constants (take l.group-index l.groups)) l.is_twice
