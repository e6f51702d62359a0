use Rattle.std.proofs.Common.{◌≡◌, drop}
use Rattle.std.specs.List.{list_all}
use Rattle.hep_conditions.specs.Words.{is_group_typed}
use Rattle.hep_types.proofs.violation.are_groups_typed.Given as goal

abbrev pub invariant-loop-group : goal.invariant-loop-group
invariant-loop-group l = list_all (is_group_typed l.scope.symbols.now l.scope.parameters.now) (drop l.group-index l.groups) ≡ list_all (is_group_typed l.scope.symbols.now l.scope.parameters.now) l.groups
