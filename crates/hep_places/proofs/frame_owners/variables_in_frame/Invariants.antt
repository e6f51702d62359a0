use Rattle.std.proofs.Common.{◌≡◌, ◌++◌, map, drop}
use Rattle.indexmap.specs.IndexMap.{get}
use Rattle.hep_machine.specs.Words.{name_eq, names_of_occurrences}
use Rattle.hep_places.specs.FrameOwners.{argument_found, local_found, variables_found}
use Rattle.hep_places.proofs.frame_owners.variables_in_frame.Given as goal

abbrev pub invariant-loop-dummy : goal.invariant-loop-dummy
invariant-loop-dummy l =
    l.variables.items ++ map (argument_found l.symbols) (names_of_occurrences (drop l.dummy-index l.dummies)) ≡ map (argument_found l.symbols) (names_of_occurrences l.dummies)

abbrev pub invariant-loop-name : goal.invariant-loop-name
invariant-loop-name l =
    l.variables.items ++ map (local_found l.symbols (get name_eq l.tables.locals)) (drop l.name-index l.locals) ≡ variables_found l.symbols (get name_eq l.tables.locals) (names_of_occurrences l.dummies) l.locals
