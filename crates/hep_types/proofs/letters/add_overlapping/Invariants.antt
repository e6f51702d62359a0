use Rattle.std.proofs.Common.{◌≡◌, ◌++◌, drop}
use Rattle.hep_conditions.specs.Words.{overlap}
use Rattle.hep_types.specs.Ambiguities.{no_name, repeated_from, repeated_letters}
use Rattle.hep_types.specs.AmbiguityLines.{meets}
use Rattle.hep_types.proofs.letters.add_overlapping.Given as goal

abbrev pub invariant-loop-range : goal.invariant-loop-range
invariant-loop-range l =
    l.found.items ++ repeated_from overlap no_name (meets l.lasts) (drop l.range-index l.ranges) ≡ l.initial.found.items ++ repeated_letters l.ranges
