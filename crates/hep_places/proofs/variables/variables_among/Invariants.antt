use Rattle.std.proofs.Common.{◌≡◌, drop}
use Rattle.std.specs.Option.{option_or}
use Rattle.indexmap.specs.IndexMap.{get}
use Rattle.hep_machine.specs.Words.{Name, name_eq}
use Rattle.hep_places.specs.StorageStarts.{start_found, variable_among}
use Rattle.hep_places.proofs.variables.variables_among.Given as goal

abbrev pub invariant-loop-name : goal.invariant-loop-name
invariant-loop-name l =
    (x : Name) → option_or (get name_eq l.table x) (variable_among l.symbols (start_found l.symbols l.common (get name_eq l.tables.offsets) (get name_eq l.tables.locals)) l.arrays (drop l.name-index l.names) x) ≡ variable_among l.symbols (start_found l.symbols l.common (get name_eq l.tables.offsets) (get name_eq l.tables.locals)) 0 l.names x
