use Rattle.std.proofs.Common.{◌≡◌, drop}
use Rattle.std.specs.List.{list_all}
use Rattle.hep_conditions.specs.Words.{is_target_typed}
use Rattle.hep_names.specs.Functions.{functions_of}
use Rattle.hep_types.proofs.forms.are_targets_typed.Given as goal

abbrev pub invariant-loop-target : goal.invariant-loop-target
invariant-loop-target l = list_all (is_target_typed (functions_of l.functions) l.symbols) (drop l.target-index l.targets) ≡ list_all (is_target_typed (functions_of l.functions) l.symbols) l.targets
