use Rattle.std.proofs.Common.{◌≡◌, ◌++◌, drop}
use Rattle.std.specs.List.{flat_map}
use Rattle.hep_warnings.specs.Asynchronous.{reads_in_subscripts}
use Rattle.hep_warnings.proofs.filled_names.add_in_targets.Given as goal

abbrev pub invariant-loop-target : goal.invariant-loop-target
invariant-loop-target l =
    l.found.items ++ flat_map (reads_in_subscripts l.symbols) (drop l.target-index l.targets)
    ≡ l.initial.found.items ++ flat_map (reads_in_subscripts l.symbols) l.targets
