use Rattle.std.proofs.Common.{◌≡◌, ◌++◌, drop}
use Rattle.hep_names.specs.Statements.{rest_after}
use Rattle.hep_places.proofs.group_list.add_each.Given as goal

abbrev pub invariant-loop-group : goal.invariant-loop-group
invariant-loop-group l = rest_after l.found.items ++ (drop l.group-index l.groups) ≡ rest_after l.initial.found.items ++ l.groups
