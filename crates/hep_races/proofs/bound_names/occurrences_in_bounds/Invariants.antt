use Rattle.std.proofs.Common.{◌≡◌, ◌++◌, drop}
use Rattle.std.specs.List.{flat_map}
use Rattle.hep_machine.specs.Words.{Name, dimensions_of, names_of_occurrences, occurrences_in_dimension}
use Rattle.hep_races.proofs.bound_names.occurrences_in_bounds.Given as goal

abbrev pub invariant-loop-dummy : goal.invariant-loop-dummy
invariant-loop-dummy l =
    l.found.items ++ flat_map (λ (x : Name). flat_map (occurrences_in_dimension l.symbols) (dimensions_of l.symbols x))
    (names_of_occurrences (drop l.dummy-index l.dummy-items))
    ≡ flat_map (λ (x : Name). flat_map (occurrences_in_dimension l.symbols) (dimensions_of l.symbols x))
    (names_of_occurrences l.dummy-items)
