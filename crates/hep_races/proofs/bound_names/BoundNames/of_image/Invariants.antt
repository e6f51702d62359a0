use Rattle.std.proofs.Common.{◌≡◌, ◌++◌, drop, map}
use Rattle.hep_races.specs.NamesInBounds.{bounds_of_unit}
use Rattle.hep_races.proofs.bound_names.BoundNames.of_image.Given as goal

abbrev pub invariant-loop-symbols : goal.invariant-loop-symbols
invariant-loop-symbols l = l.units.items ++ map (bounds_of_unit l.image) (drop l.symbols-index l.image) ≡ map
    (bounds_of_unit l.image) l.image
