use Rattle.std.proofs.Common.{◌≡◌, ◌++◌, drop}
use Rattle.hep_conditions.specs.Words.{names_of_targets}
use Rattle.hep_types.proofs.uses.add_targets.Given as goal

abbrev pub invariant-loop-target : goal.invariant-loop-target
invariant-loop-target l = l.names.items ++ names_of_targets (drop l.target-index l.targets) ≡ l.initial.names.items ++ names_of_targets l.targets
