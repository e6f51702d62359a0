use Rattle.std.proofs.Common.{◌≡◌, ◌++◌, List, [], drop}
use Rattle.indexmap.specs.IndexMap.{get}
use Rattle.hep_machine.specs.Words.{name_eq, Stretch}
use Rattle.hep_storage.specs.InitializedElements.{IsGiven}
use Rattle.hep_storage.specs.DataGroups.{data_lines}
use Rattle.hep_storage.specs.ArrayShapes.{IsTable}
use Rattle.hep_storage.proofs.violation.data_lines.Given as goal

abbrev pub invariant-loop-statement : goal.invariant-loop-statement
invariant-loop-statement l =
    IsTable l.symbols (get name_eq l.shapes.shapes)
    × ((given : List Stretch) × IsGiven l.symbols given l.given
    × (l.lines.items ++ data_lines l.symbols l.constants given (drop l.statement-index l.statement-items) ≡ data_lines l.symbols [] [] l.statement-items))
