use Rattle.std.proofs.Common.{◌≡◌, ◌++◌, drop}
use Rattle.hep_conditions.specs.Words.{names_of_targets, targets_of_groups}
use Rattle.hep_types.proofs.uses.targets_of_groups.Given as goal

abbrev pub invariant-loop-group : goal.invariant-loop-group
invariant-loop-group l = l.names.items ++ names_of_targets (targets_of_groups (drop l.group-index l.groups)) ≡ names_of_targets (targets_of_groups l.groups)
