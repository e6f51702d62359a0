use Rattle.std.proofs.Common.{◌≡◌, ◌++◌, drop}
use Rattle.std.specs.List.{flat_map}
use Rattle.hep_warnings.specs.UnusedUnits.{unit_warning}
use Rattle.hep_warnings.proofs.unused_units.add_units.Given as goal

abbrev pub invariant-loop-unit : goal.invariant-loop-unit
invariant-loop-unit l =
    l.found.items ++ flat_map (unit_warning l.used) (drop l.unit-index l.program) ≡ l.initial.found.items ++ flat_map (unit_warning l.used) l.program
