use Rattle.std.proofs.Common.{◌≡◌, ◌++◌, drop}
use Rattle.std.specs.List.{flat_map}
use Rattle.hep_dump.specs.CommonNames.{names_in_list}
use Rattle.hep_dump.proofs.common_names.add_statement.Given as goal

abbrev pub invariant-loop-list : goal.invariant-loop-list
invariant-loop-list l = l.names.items ++ flat_map (names_in_list l.block) (drop l.list-index l.list-items) ≡ l.initial.names.items ++ flat_map (names_in_list l.block) l.list-items
