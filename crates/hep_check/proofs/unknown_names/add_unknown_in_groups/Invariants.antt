use Rattle.std.proofs.Common.{◌≡◌, ◌++◌, drop}
use Rattle.std.specs.List.{flat_map}
use Rattle.hep_names.specs.Parts as passes
use Rattle.hep_check.proofs.unknown_names.add_unknown_in_groups.Given as goal

abbrev pub invariant-loop-group : goal.invariant-loop-group
invariant-loop-group l =
    l.found.items ++ flat_map (passes.unknown_in_group l.symbols l.line) (drop l.group-index l.groups)
    ≡ l.initial.found.items ++ flat_map (passes.unknown_in_group l.symbols l.line) l.groups
