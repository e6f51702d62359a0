use Rattle.std.proofs.Common.{◌≡◌, ◌++◌, drop}
use Rattle.std.specs.List.{filter}
use Rattle.indexmap.specs.IndexMap.{get}
use Rattle.indexmap.specs.IndexSet.{contains}
use Rattle.hep_machine.specs.Words.{name_eq}
use Rattle.hep_names.specs.Tables.{is_local_by}
use Rattle.hep_names.proofs.names.locals_among.Given as goal

abbrev pub invariant-loop-name : goal.invariant-loop-name
invariant-loop-name l = l.locals.items ++ filter (is_local_by (get name_eq l.dummies.map) (get name_eq l.blocks.map) (contains name_eq l.constants.set)) (drop l.name-index l.names) ≡ filter (is_local_by (get name_eq l.dummies.map) (get name_eq l.blocks.map) (contains name_eq l.constants.set)) l.names
