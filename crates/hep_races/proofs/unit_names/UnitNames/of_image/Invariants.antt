use Rattle.std.proofs.Common.{◌≡◌, ◌++◌, drop, map}
use Rattle.hep_machine.specs.Words.{names_of}
use Rattle.hep_races.proofs.unit_names.UnitNames.of_image.Given as goal

abbrev pub invariant-loop-symbols : goal.invariant-loop-symbols
invariant-loop-symbols l = l.units.items ++ map names_of (drop l.symbols-index l.image) ≡ map names_of l.image
