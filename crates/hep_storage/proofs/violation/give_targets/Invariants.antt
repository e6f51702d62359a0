use Rattle.std.proofs.Common.{take}
use Rattle.indexmap.specs.IndexMap.{get}
use Rattle.hep_machine.specs.Words.{name_eq}
use Rattle.hep_storage.specs.InitializedElements.{Gives}
use Rattle.hep_storage.specs.DataGroups.{elements_of_targets}
use Rattle.hep_storage.specs.ArrayShapes.{IsTable}
use Rattle.hep_storage.proofs.violation.give_targets.Given as goal

abbrev pub invariant-loop-target : goal.invariant-loop-target
invariant-loop-target l =
    IsTable l.symbols (get name_eq l.shapes.shapes)
    × Gives l.symbols l.initial.given l.given (elements_of_targets l.symbols l.constants (take l.target-index l.targets)) l.is_twice
