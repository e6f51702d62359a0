use Rattle.std.proofs.Common.{List, drop}
use Rattle.indexmap.specs.IndexMap.{get}
use Rattle.hep_machine.specs.Words.{Value, name_eq, Repeated}
use Rattle.hep_image.specs.declared.data.DataRow.{DataRow}
use Rattle.hep_places.specs.CellRows.{Gives}
use Rattle.hep_places.specs.InitialValues.{all_cells_named}
use Rattle.hep_places.specs.GroupValues.{left}
use Rattle.hep_places.proofs.group_rows.add_targets.Given as goal

-- what is given with the names ahead is given with all names
abbrev pub invariant-loop-target : goal.invariant-loop-target
invariant-loop-target l =
    (after : List DataRow) (new : List (Repeated Value)) → Gives (all_cells_named l.frame.symbols.now (get name_eq l.frame.variables.now) l.frame.arrays.now l.frame.common (drop l.target-index l.targets)) l.rows.items (left l.values) after new
    → Gives (all_cells_named l.frame.symbols.now (get name_eq l.frame.variables.now) l.frame.arrays.now l.frame.common l.targets) l.initial.rows.items (left l.initial.values) after new
