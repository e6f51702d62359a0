use Rattle.std.proofs.Common.{◌≡◌, ◌++◌, drop}
use Rattle.std.specs.List.{flat_map}
use Rattle.hep_machine.specs.Words.{occurrences_in_dimension}
use Rattle.hep_races.proofs.bound_names.add_dimensions.Given as goal

abbrev pub invariant-loop-dimension : goal.invariant-loop-dimension
invariant-loop-dimension l =
    l.found.items ++ flat_map (occurrences_in_dimension l.symbols) (drop l.dimension-index l.dimensions)
    ≡ l.initial.found.items ++ flat_map (occurrences_in_dimension l.symbols) l.dimensions
