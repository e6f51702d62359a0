use Rattle.std.proofs.Common.{◌≡◌, ◌++◌, drop}
use Rattle.std.specs.List.{flat_map}
use Rattle.hep_warnings.specs.UnusedNames.{name_warning}
use Rattle.hep_warnings.proofs.unused_names.add_names.Given as goal

abbrev pub invariant-loop-name : goal.invariant-loop-name
invariant-loop-name l =
    l.found.items ++ flat_map (name_warning l.unit l.line) (drop l.name-index l.names) ≡ l.initial.found.items ++ flat_map (name_warning l.unit l.line) l.names
