use Rattle.std.proofs.Common.{◌≡◌, ◌++◌, drop, map}
use Rattle.std.specs.List.{filter}
use Rattle.hep_machine.specs.Words.{is_referenced}
use Rattle.hep_names.specs.Lists.{listed}
use Rattle.hep_warnings.proofs.unused_units.add_referenced.Given as goal
use Rattle.hep_conditions.specs.Words.{names_of_lists}

abbrev pub invariant-loop-name : goal.invariant-loop-name
invariant-loop-name l =
    l.used.items ++ filter (is_referenced l.symbols) (names_of_lists (map listed (drop l.name-index l.names)))
    ≡ l.initial.used.items ++ filter (is_referenced l.symbols) (names_of_lists (map listed l.names))
