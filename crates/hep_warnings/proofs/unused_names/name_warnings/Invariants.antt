use Rattle.std.proofs.Common.{◌≡◌, ◌++◌, drop}
use Rattle.std.specs.List.{flat_map}
use Rattle.hep_warnings.specs.UnusedNames.{name_warnings, name_warnings_in}
use Rattle.hep_warnings.proofs.unused_names.name_warnings.Given as goal

abbrev pub invariant-loop-unit : goal.invariant-loop-unit
invariant-loop-unit l =
    l.found.items ++ flat_map name_warnings_in (drop l.unit-index l.program) ≡ name_warnings l.program
