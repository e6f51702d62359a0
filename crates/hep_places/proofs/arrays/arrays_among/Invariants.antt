use Rattle.std.proofs.Common.{◌≡◌, ◌++◌, map, drop}
use Rattle.std.specs.List.{filter}
use Rattle.hep_machine.specs.Words.{is_array}
use Rattle.hep_places.specs.StorageStarts.{array_in}
use Rattle.hep_places.proofs.arrays.arrays_among.Given as goal

abbrev pub invariant-loop-name : goal.invariant-loop-name
invariant-loop-name l =
    l.arrays.items ++ map (array_in l.known) (filter (is_array l.known.symbols.now) (drop l.name-index l.names)) ≡ map (array_in l.known) (filter (is_array l.known.symbols.now) l.names)
