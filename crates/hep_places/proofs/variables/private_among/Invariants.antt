use Rattle.std.proofs.Common.{◌≡◌, ◌++◌, map, drop}
use Rattle.std.specs.List.{filter}
use Rattle.std.specs.Option.{unwrap_or}
use Rattle.indexmap.specs.IndexMap.{get}
use Rattle.hep_machine.specs.Words.{Name, name_eq}
use Rattle.hep_image.specs.Private.{is_private}
use Rattle.hep_places.proofs.variables.private_among.Given as goal

abbrev pub invariant-loop-name : goal.invariant-loop-name
invariant-loop-name l =
    l.cells.items ++ map (λ (x : Name). unwrap_or (get name_eq l.tables.locals x) 0) (filter (is_private l.symbols) (drop l.name-index l.names)) ≡ map (λ (x : Name). unwrap_or (get name_eq l.tables.locals x) 0) (filter (is_private l.symbols) l.names)
