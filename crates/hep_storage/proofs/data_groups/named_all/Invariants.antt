use Rattle.std.proofs.Common.{take}
use Rattle.indexmap.specs.IndexMap.{get}
use Rattle.hep_machine.specs.Words.{name_eq}
use Rattle.hep_storage.specs.DataNames.{NamedAll}
use Rattle.hep_storage.specs.ArrayShapes.{IsTable}
use Rattle.hep_storage.proofs.data_groups.named_all.Given as goal

abbrev pub invariant-loop-target : goal.invariant-loop-target
invariant-loop-target l =
    IsTable l.symbols (get name_eq l.shapes.shapes) × NamedAll l.symbols l.constants (take l.target-index l.targets) l.named.items
