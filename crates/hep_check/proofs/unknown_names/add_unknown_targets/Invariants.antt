use Rattle.std.proofs.Common.{◌≡◌, ◌++◌, drop}
use Rattle.std.specs.List.{flat_map}
use Rattle.hep_names.specs.Parts as passes
use Rattle.hep_check.proofs.unknown_names.add_unknown_targets.Given as goal

abbrev pub invariant-loop-target : goal.invariant-loop-target
invariant-loop-target l =
    l.found.items ++ flat_map (passes.unknown_target l.symbols l.line) (drop l.target-index l.targets)
    ≡ l.initial.found.items ++ flat_map (passes.unknown_target l.symbols l.line) l.targets
