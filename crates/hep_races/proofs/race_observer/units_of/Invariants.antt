use Rattle.std.proofs.Common.{◌≡◌, ◌++◌, drop, map}
use Rattle.hep_races.specs.RunNames.{unit_of_place}
use Rattle.hep_races.proofs.race_observer.units_of.Given as goal

abbrev pub invariant-loop-place : goal.invariant-loop-place
invariant-loop-place l = l.units.items ++ map unit_of_place (drop l.place-index l.places) ≡ map unit_of_place l.places
