use Rattle.std.proofs.Common.{◌≡◌, ◌++◌, drop, map}
use Rattle.hep_names.specs.Lists.{listed}
use Rattle.hep_types.proofs.uses.names_of_lists.Given as goal
use Rattle.hep_conditions.specs.Words.{names_of_lists}

abbrev pub invariant-loop-list : goal.invariant-loop-list
invariant-loop-list l = l.names.items ++ names_of_lists (map listed (drop l.list-index l.lists)) ≡ names_of_lists (map listed l.lists)
