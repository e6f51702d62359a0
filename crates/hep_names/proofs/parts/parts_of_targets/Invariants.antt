use Rattle.std.proofs.Common.{◌≡◌, ◌++◌, drop, map}
use Rattle.std.specs.List.{flat_map}
use Rattle.hep_conditions.specs.Words.{targets_of_groups}
use Rattle.hep_names.specs.Parts.{part, parts_in_target}
use Rattle.hep_names.proofs.parts.parts_of_targets.Given as goal

abbrev pub invariant-loop-group : goal.invariant-loop-group
invariant-loop-group l = map part l.found.items ++ flat_map parts_in_target (targets_of_groups (drop l.group-index l.groups)) ≡ flat_map parts_in_target (targets_of_groups l.groups)
